use Rattle.task_deal.proofs.Common.{◌≡◌, ◌<◌, ◌≤◌, ◌∙◌, ◌++◌, ℕ, List, length, take, drop, All, ap, sym, subst, arith}
use Rattle.task_deal.proofs.Common.{injector_view, Member, Account, Shared, HasPart, source_taken}
use Rattle.task_deal.proofs.Common.{IsSeatOf, AllZip, Each, Stands, sum_of}
use Rattle.task_deal.proofs.Together.{AreOf, ready, worked, whole, made_of, members_count, parts_left, owns_stand}
use Rattle.task_deal.proofs.Together.{purses_left, ledger_begins, Worked}
use Rattle.task_deal.proofs.deal.run_members.Goals as goal
use Rattle.task_deal.proofs.deal.run_members.Given.{Over}
use Rattle.task_deal.proofs.deal.run_members.Goals.{After-run_members_in_threads}

-- the members before they work and after
module _ (g : Over) (c : After-run_members_in_threads g) where
  abbrev shared : Shared
  shared = c.args.shared.now

  abbrev ss : List (Member g.row.J.Denot)
  ss = c.make_members.new.members.items

  abbrev ts : List (Member g.row.J.Denot)
  ts = c.run_members_in_threads.new.members

  count : length ts ≡ length ss
  count = omega (arith, c.run_members_in_threads.auto.members, ap length c.deref_mut.ensures.value)

  all : take c.make_members.new.members.len (ts ++ drop (length ts) ss) ≡ ts
  all = whole c.make_members.new.members.len ss ts c.make_members.new.members.ok.0 count

  first : AreOf ss c.args.jobs.now.items c.args.hands.owns.items c.args.hands.purses.items
  first = record {
    jobs_are = c.make_members.ensures.jobs;
    owns_are = c.make_members.ensures.owns;
    purses_are =
        c.make_members.ensures.purses;
  }

  zip : AllZip (Worked c.args.shared.now g.J.Job.work g.J.Job.runs g.J.Job.spare) ss ts
  zip = worked c.args.shared.now g.J.Job.work g.J.Job.runs g.J.Job.spare c.deref_mut.result.now ss ts
      c.deref_mut.ensures.value c.run_members_in_threads.auto.members c.run_members_in_threads.ensures

  were : (length c.args.jobs.now.items ≡ length ss) × (length c.args.hands.owns.items ≡ length ss) ×
      (length c.args.hands.purses.items ≡ length ss)
  were = members_count ss c.args.jobs.now.items c.args.hands.owns.items c.args.hands.purses.items first

pub make_members-requires-clause-owner : goal.make_members-requires-clause-owner
make_members-requires-clause-owner g c =
    (c.requires.hands.source, c.requires.hands.port, ap (λ (v : Account). v.parts) c.requires.hands.account)

pub make_members-requires-clause-empty : goal.make_members-requires-clause-empty
make_members-requires-clause-empty g c = c.requires.empty

pub make_members-requires-clause-owns : goal.make_members-requires-clause-owns
make_members-requires-clause-owns g c = c.requires.hands.owns_count ∙ c.requires.hands.thieves_count

pub make_members-requires-clause-purses : goal.make_members-requires-clause-purses
make_members-requires-clause-purses g c = c.requires.hands.purses_count

pub make_members-requires-clause-room : goal.make_members-requires-clause-room
make_members-requires-clause-room g c = c.requires.room

pub run_members_in_threads-requires-clause-some : goal.run_members_in_threads-requires-clause-some
run_members_in_threads-requires-clause-some g c κs within =
    let ss = c.make_members.new.members.items in
    let are : AreOf ss c.args.jobs.now.items c.args.hands.owns.items c.args.hands.purses.items =
    record {
      jobs_are = c.make_members.ensures.jobs;
      owns_are = c.make_members.ensures.owns;
      purses_are =
          c.make_members.ensures.purses;
    } in
    subst (λ k. 0 < k)
    ((members_count ss c.args.jobs.now.items c.args.hands.owns.items c.args.hands.purses.items are).0 ∙
    sym (ap length c.deref_mut.ensures.value)) c.requires.jobs

pub run_members_in_threads-requires-clause-ready : goal.run_members_in_threads-requires-clause-ready
run_members_in_threads-requires-clause-ready g c κs within =
    let shared : Shared = c.args.shared.now in
    let ss = c.make_members.new.members.items in
    let are : AreOf ss c.args.jobs.now.items c.args.hands.owns.items c.args.hands.purses.items =
    record {
      jobs_are = c.make_members.ensures.jobs;
      owns_are = c.make_members.ensures.owns;
      purses_are =
          c.make_members.ensures.purses;
    } in
    let begin = ready shared g.J.Job.work g.J.Job.runs g.J.Job.spare c.args.tasks (length c.args.jobs.now.items)
    (length shared.thieves.items) ss c.args.jobs.now.items c.args.hands.owns.items c.args.hands.purses.items
    are c.make_members.ensures.members.0 c.requires.spare c.requires.hands.owns_count
    c.requires.hands.owns c.requires.hands.purses in
    subst (All (λ (m : Member g.row.J.Denot). IsSeatOf shared m.seat × (c.args.tasks ≤ g.J.Job.spare m.job)))
    (sym c.deref_mut.ensures.value) begin

pub unzip_members_into_parts-requires-clause-owner : goal.unzip_members_into_parts-requires-clause-owner
unzip_members_into_parts-requires-clause-owner g c =
    let d = (goal.at.unzip_members_into_parts-requires-clause-owner g c).After-run_members_in_threads in
    let o = c.make_members.ensures.owner in
    (o.0, o.1, ap (λ (v : Account). v.parts) o.2 ∙ sym (ap length (all g d) ∙ count g d))

pub unzip_members_into_parts-requires-clause-members : goal.unzip_members_into_parts-requires-clause-members
unzip_members_into_parts-requires-clause-members g c =
    let d = (goal.at.unzip_members_into_parts-requires-clause-members g c).After-run_members_in_threads in
    subst (All (λ (m : Member g.row.J.Denot). HasPart (shared g d).source m.seat)) (sym (all g d))
    (parts_left (shared g d) g.J.Job.work g.J.Job.runs g.J.Job.spare (ss g d) (ts g d) (zip g d))

pub unzip_members_into_parts-requires-clause-jobs : goal.unzip_members_into_parts-requires-clause-jobs
unzip_members_into_parts-requires-clause-jobs g c =
    let d = (goal.at.unzip_members_into_parts-requires-clause-jobs g c).After-run_members_in_threads in
    omega (
      arith,
      ap length (all g d),
      count g d,
      (were g d).0,
      c.make_members.ensures.room.0,
      c.args.jobs.now.ok.0,
      c.args.jobs.now.ok.1,
    )

pub unzip_members_into_parts-requires-clause-owns : goal.unzip_members_into_parts-requires-clause-owns
unzip_members_into_parts-requires-clause-owns g c =
    let d = (goal.at.unzip_members_into_parts-requires-clause-owns g c).After-run_members_in_threads in
    omega (
      arith,
      ap length (all g d),
      count g d,
      (were g d).1,
      c.make_members.ensures.room.1,
      c.args.hands.owns.ok.0,
      c.args.hands.owns.ok.1,
    )

pub unzip_members_into_parts-requires-clause-purses : goal.unzip_members_into_parts-requires-clause-purses
unzip_members_into_parts-requires-clause-purses g c =
    let d = (goal.at.unzip_members_into_parts-requires-clause-purses g c).After-run_members_in_threads in
    omega (
      arith,
      ap length (all g d),
      count g d,
      (were g d).2,
      c.make_members.ensures.room.2,
      c.args.hands.purses.ok.0,
      c.args.hands.purses.ok.1,
    )

pub return_steal_permissions_of_all-requires-clause-count : goal.return_steal_permissions_of_all-requires-clause-count
return_steal_permissions_of_all-requires-clause-count g c =
    let d = (goal.at.return_steal_permissions_of_all-requires-clause-count g c).After-run_members_in_threads in
    let then : AreOf (ts g d) c.unzip_members_into_parts.new.jobs.items c.unzip_members_into_parts.new.owns.items
    c.unzip_members_into_parts.new.purses.items =
    made_of _ (ts g d) c.unzip_members_into_parts.new.jobs.items c.unzip_members_into_parts.new.owns.items
    c.unzip_members_into_parts.new.purses.items
    (all g d) c.unzip_members_into_parts.ensures.jobs c.unzip_members_into_parts.ensures.owns
    c.unzip_members_into_parts.ensures.purses in
    let are = members_count (ts g d) c.unzip_members_into_parts.new.jobs.items c.unzip_members_into_parts.new.owns.items
    c.unzip_members_into_parts.new.purses.items then in
    omega (arith, are.1, count g d, (were g d).1, c.requires.hands.owns_count)

pub return_steal_permissions_of_all-requires-clause-purses : goal.return_steal_permissions_of_all-requires-clause-purses
return_steal_permissions_of_all-requires-clause-purses g c =
    let d = (goal.at.return_steal_permissions_of_all-requires-clause-purses g c).After-run_members_in_threads in
    let then : AreOf (ts g d) c.unzip_members_into_parts.new.jobs.items c.unzip_members_into_parts.new.owns.items
    c.unzip_members_into_parts.new.purses.items =
    made_of _ (ts g d) c.unzip_members_into_parts.new.jobs.items c.unzip_members_into_parts.new.owns.items
    c.unzip_members_into_parts.new.purses.items
    (all g d) c.unzip_members_into_parts.ensures.jobs c.unzip_members_into_parts.ensures.owns
    c.unzip_members_into_parts.ensures.purses in
    purses_left (shared g d) g.J.Job.work g.J.Job.runs g.J.Job.spare (ss g d) (ts g d) c.args.jobs.now.items
    c.unzip_members_into_parts.new.jobs.items c.args.hands.owns.items c.unzip_members_into_parts.new.owns.items
    c.args.hands.purses.items
    c.unzip_members_into_parts.new.purses.items (first g d) then (zip g d)

pub return_steal_permissions_of_all-requires-clause-owns : goal.return_steal_permissions_of_all-requires-clause-owns
return_steal_permissions_of_all-requires-clause-owns g c =
    let d = (goal.at.return_steal_permissions_of_all-requires-clause-owns g c).After-run_members_in_threads in
    let then : AreOf (ts g d) c.unzip_members_into_parts.new.jobs.items c.unzip_members_into_parts.new.owns.items
    c.unzip_members_into_parts.new.purses.items =
    made_of _ (ts g d) c.unzip_members_into_parts.new.jobs.items c.unzip_members_into_parts.new.owns.items
    c.unzip_members_into_parts.new.purses.items
    (all g d) c.unzip_members_into_parts.ensures.jobs c.unzip_members_into_parts.ensures.owns
    c.unzip_members_into_parts.ensures.purses in
    let are = members_count (ts g d) c.unzip_members_into_parts.new.jobs.items c.unzip_members_into_parts.new.owns.items
    c.unzip_members_into_parts.new.purses.items then in
    let out : length c.args.jobs.now.items ≡ length c.unzip_members_into_parts.new.purses.items =
    omega (arith, are.2, count g d, (were g d).2, c.requires.hands.purses_count) in
    subst (λ k. Each (Stands (shared g d).thieves.items k) 0 (length (shared g d).thieves.items)
    c.unzip_members_into_parts.new.owns.items) out
    (owns_stand (shared g d) g.J.Job.work g.J.Job.runs g.J.Job.spare (ss g d) (ts g d) c.args.jobs.now.items
    c.unzip_members_into_parts.new.jobs.items c.args.hands.owns.items c.unzip_members_into_parts.new.owns.items
    c.args.hands.purses.items
    c.unzip_members_into_parts.new.purses.items (first g d) then (zip g d) (length c.args.jobs.now.items)
    (length (shared g d).thieves.items) c.requires.hands.owns_count c.requires.hands.owns)

pub check_deque_counts-requires : goal.check_deque_counts-requires
check_deque_counts-requires g c =
    record {
      stands = subst (λ k. Each (Stands c.args.shared.now.thieves.items 0) 0 k
          c.return_steal_permissions_of_all.new.owns.items)
          (sym c.return_steal_permissions_of_all.ensures.count) c.return_steal_permissions_of_all.ensures.owns;
    }

pub run_numbers_left-requires-clause-some : goal.run_numbers_left-requires-clause-some
run_numbers_left-requires-clause-some g c =
    let d = (goal.at.run_numbers_left-requires-clause-some g c).After-run_members_in_threads in
    let then : AreOf (ts g d) c.unzip_members_into_parts.new.jobs.items c.unzip_members_into_parts.new.owns.items
    c.unzip_members_into_parts.new.purses.items =
    made_of _ (ts g d) c.unzip_members_into_parts.new.jobs.items c.unzip_members_into_parts.new.owns.items
    c.unzip_members_into_parts.new.purses.items
    (all g d) c.unzip_members_into_parts.ensures.jobs c.unzip_members_into_parts.ensures.owns
    c.unzip_members_into_parts.ensures.purses in
    let are = members_count (ts g d) c.unzip_members_into_parts.new.jobs.items c.unzip_members_into_parts.new.owns.items
    c.unzip_members_into_parts.new.purses.items then in
    omega (arith, are.0, count g d, (were g d).0, c.requires.jobs)

pub run_numbers_left-requires-clause-ledger : goal.run_numbers_left-requires-clause-ledger
run_numbers_left-requires-clause-ledger g c =
    let d = (goal.at.run_numbers_left-requires-clause-ledger g c).After-run_members_in_threads in
    let then : AreOf (ts g d) c.unzip_members_into_parts.new.jobs.items c.unzip_members_into_parts.new.owns.items
    c.unzip_members_into_parts.new.purses.items =
    made_of _ (ts g d) c.unzip_members_into_parts.new.jobs.items c.unzip_members_into_parts.new.owns.items
    c.unzip_members_into_parts.new.purses.items
    (all g d) c.unzip_members_into_parts.ensures.jobs c.unzip_members_into_parts.ensures.owns
    c.unzip_members_into_parts.ensures.purses in (
      c.args.jobs.now.items,
      ledger_begins (shared g d) g.J.Job.work g.J.Job.runs g.J.Job.spare (ss g d) (ts g d) c.args.jobs.now.items
          c.unzip_members_into_parts.new.jobs.items c.args.hands.owns.items c.unzip_members_into_parts.new.owns.items
          c.args.hands.purses.items
          c.unzip_members_into_parts.new.purses.items (first g d) then (zip g d) c.args.tasks
          c.return_steal_permissions_of_all.new.owns.items
          c.check_deque_counts.new.owns.items (injector_view c.unzip_members_into_parts.new.owner)
          c.unzip_members_into_parts.ensures.owner.2
          (c.unzip_members_into_parts.ensures.owner.3 ∙ (ap (λ (v : Account). v.put) c.make_members.ensures.owner.2 ∙
          ap (λ (v : Account). v.put) c.requires.hands.account))
          (λ h. let taken : Account → ℕ = λ v. sum_of h v.taken in
          omega (
            arith,
            c.unzip_members_into_parts.ensures.books h,
            ap (sum_of (source_taken h)) (all g d),
            ap taken c.make_members.ensures.owner.2,
            ap taken c.requires.hands.account,
          ))
          c.make_members.ensures.members.1
          c.requires.hands.fresh
          c.requires.hands.idle
          c.return_steal_permissions_of_all.ensures.books
          c.check_deque_counts.ensures.books
          c.check_deque_counts.ensures.stands
          c.check_deque_counts.ensures.fits
          c.requires.spare,
    )

pub returns : goal.returns
returns g c =
    let d = (goal.at.returns g c).After-run_members_in_threads in
    let then : AreOf (ts g d) c.unzip_members_into_parts.new.jobs.items c.unzip_members_into_parts.new.owns.items
    c.unzip_members_into_parts.new.purses.items =
    made_of _ (ts g d) c.unzip_members_into_parts.new.jobs.items c.unzip_members_into_parts.new.owns.items
    c.unzip_members_into_parts.new.purses.items
    (all g d) c.unzip_members_into_parts.ensures.jobs c.unzip_members_into_parts.ensures.owns
    c.unzip_members_into_parts.ensures.purses in
    c.run_numbers_left.ensures c.args.jobs.now.items
    (ledger_begins (shared g d) g.J.Job.work g.J.Job.runs g.J.Job.spare (ss g d) (ts g d) c.args.jobs.now.items
    c.unzip_members_into_parts.new.jobs.items c.args.hands.owns.items c.unzip_members_into_parts.new.owns.items
    c.args.hands.purses.items
    c.unzip_members_into_parts.new.purses.items (first g d) then (zip g d) c.args.tasks
    c.return_steal_permissions_of_all.new.owns.items
    c.check_deque_counts.new.owns.items (injector_view c.unzip_members_into_parts.new.owner)
    c.unzip_members_into_parts.ensures.owner.2
    (c.unzip_members_into_parts.ensures.owner.3 ∙ (ap (λ (v : Account). v.put) c.make_members.ensures.owner.2 ∙
    ap (λ (v : Account). v.put) c.requires.hands.account))
    (λ h. let taken : Account → ℕ = λ v. sum_of h v.taken in
    omega (
      arith,
      c.unzip_members_into_parts.ensures.books h,
      ap (sum_of (source_taken h)) (all g d),
      ap taken c.make_members.ensures.owner.2,
      ap taken c.requires.hands.account,
    ))
    c.make_members.ensures.members.1
    c.requires.hands.fresh
    c.requires.hands.idle
    c.return_steal_permissions_of_all.ensures.books
    c.check_deque_counts.ensures.books
    c.check_deque_counts.ensures.stands
    c.check_deque_counts.ensures.fits
    c.requires.spare)
