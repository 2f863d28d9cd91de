-- A command with its words, with names as their bytes (this project's profile).
use Rattle.std.specs.Prelude.{ℕ, ℤ, pos, List, Option, Some, None, option_map, unwrap_or}
use Rattle.hull_words.specs.declared.defaults.TheConstants.{DEFAULT_PROPOSALS, DEFAULT_WORKERS}
use Rattle.hull_words.specs.declared.defaults.TheConstants.{DEFAULT_AHEAD, DEFAULT_RADIUS}
use Rattle.hull_words.specs.declared.defaults.TheConstants.{DEFAULT_WITHIN}
use Rattle.hull_words.specs.declared.command.PriceWords.{PriceWords}
use Rattle.hull_words.specs.declared.command.CheckWords.{CheckWords}
use Rattle.hull_words.specs.declared.command.SettleWords.{SettleWords}
use Rattle.hull_words.specs.declared.command.ConvexWords.{ConvexWords}
use Rattle.hull_words.specs.declared.command.Command.{Command}
use Rattle.hull_words.specs.declared.command.Command.TheVariants as commands
use Rattle.hull_words.specs.declared.kinds.CommandKind.{CommandKind}
use Rattle.hull_words.specs.declared.kinds.CommandKind.TheVariants.{Price, Check, Try, Bound, Fixed}
use Rattle.hull_words.specs.declared.kinds.CommandKind.TheVariants.{Audit, Settle, Certify, Convex}

pub record PriceAsked : Type 0 where
  pub case_name : List ℕ
  pub schedule_name : List ℕ
  pub proposals : ℕ
  pub workers : ℕ
  pub ahead : ℕ

pub record CheckAsked : Type 0 where
  pub case_name : List ℕ
  pub schedule_name : List ℕ

pub record TryAsked : Type 0 where
  pub number : ℕ
  pub proposals : ℕ
  pub workers : ℕ
  pub ahead : ℕ

pub record BoundAsked : Type 0 where
  pub run : PriceAsked
  pub radius : ℤ

pub record AuditAsked : Type 0 where
  pub case_name : List ℕ
  pub schedule_name : List ℕ
  pub report_name : List ℕ
  pub workers : ℕ

pub record SettleAsked : Type 0 where
  pub case_name : List ℕ
  pub schedule_name : List ℕ
  pub prices_name : List ℕ

pub record CertifyAsked : Type 0 where
  pub names : SettleAsked
  pub mixture_name : List ℕ
  pub radius : ℤ

pub record ConvexAsked : Type 0 where
  pub case_name : List ℕ
  pub schedule_name : List ℕ
  pub within : ℕ
  pub rounds : Option ℕ

pub data Asked : Type 0 where
  price : PriceAsked → Asked
  check : CheckAsked → Asked
  try : TryAsked → Asked
  bound : BoundAsked → Asked
  fixed : PriceAsked → Asked
  audit : AuditAsked → Asked
  settle : SettleAsked → Asked
  certify : CertifyAsked → Asked
  convex : ConvexAsked → Asked

-- what a contract sees of a command
abbrev pub price_asked : PriceWords → PriceAsked
price_asked w =
    record {
      case_name = w.case_name.items;
      schedule_name = w.schedule_name.items;
      proposals = w.proposals;
      workers = w.workers;
      ahead = w.ahead;
    }

abbrev pub check_named : List ℕ → List ℕ → CheckAsked
check_named case_name schedule_name = record { case_name = case_name; schedule_name = schedule_name }

abbrev pub check_asked : CheckWords → CheckAsked
check_asked w = check_named w.case_name.items w.schedule_name.items

abbrev pub settle_asked : SettleWords → SettleAsked
settle_asked w =
    record {
      case_name = w.case_name.items;
      schedule_name = w.schedule_name.items;
      prices_name = w.prices_name.items;
    }

abbrev pub convex_asked : ConvexWords → ConvexAsked
convex_asked w =
    record {
      case_name = w.case_name.items;
      schedule_name = w.schedule_name.items;
      within = w.within;
      rounds = w.rounds;
    }

abbrev pub asked : Command → Asked
asked (commands.Price w) = price (price_asked w)
asked (commands.Check w) = check (check_asked w)
asked (commands.Try w) =
    try (record {
      number = w.number;
      proposals = w.proposals;
      workers = w.workers;
      ahead = w.ahead;
    })
asked (commands.Bound w) = bound (record { run = price_asked w.run; radius = w.radius })
asked (commands.Fixed w) = fixed (price_asked w)
asked (commands.Audit w) =
    audit (record {
      case_name = w.case_name.items;
      schedule_name = w.schedule_name.items;
      report_name = w.report_name.items;
      workers = w.workers;
    })
asked (commands.Settle w) = settle (settle_asked w)
asked (commands.Certify w) =
    certify (record {
      names = settle_asked w.names;
      mixture_name = w.mixture_name.items;
      radius = w.radius;
    })
asked (commands.Convex w) = convex (convex_asked w)

-- the values that words give, each where it is given
pub record Found : Type 0 where
  pub case_name : Option (List ℕ)
  pub schedule_name : Option (List ℕ)
  pub report_name : Option (List ℕ)
  pub prices_name : Option (List ℕ)
  pub mixture_name : Option (List ℕ)
  pub proposals : Option ℕ
  pub workers : Option ℕ
  pub ahead : Option ℕ
  pub radius : Option ℕ
  pub within : Option ℕ
  pub rounds : Option ℕ
  pub number : Option ℕ

-- both values, where both are there
abbrev pub with_both : {A B C : Type 0} → Option A → Option B → (A → B → C) → Option C
with_both None b f = None
with_both (Some a) None f = None
with_both (Some a) (Some b) f = Some (f a b)

abbrev pub names_from : Found → Option CheckAsked
names_from found =
    with_both found.case_name found.schedule_name check_named

abbrev pub price_from : Found → Option PriceAsked
price_from found = option_map (λ names. record {
  case_name = names.case_name;
  schedule_name = names.schedule_name;
  proposals = unwrap_or found.proposals DEFAULT_PROPOSALS;
  workers = unwrap_or found.workers DEFAULT_WORKERS;
  ahead = unwrap_or found.ahead DEFAULT_AHEAD;
}) (names_from found)

abbrev pub settle_from : Found → Option SettleAsked
settle_from found =
    with_both (names_from found) found.prices_name (λ names prices_name. record {
      case_name = names.case_name;
      schedule_name = names.schedule_name;
      prices_name = prices_name;
    })

-- the command with its values, by default where absent; None where one that it requires is absent
abbrev pub asked_from : CommandKind → Found → Option Asked
asked_from Price found = option_map price (price_from found)
asked_from Check found = option_map check (names_from found)
asked_from Try found = option_map (λ number. try (record {
  number = number;
  proposals = unwrap_or found.proposals DEFAULT_PROPOSALS;
  workers = unwrap_or found.workers DEFAULT_WORKERS;
  ahead = unwrap_or found.ahead DEFAULT_AHEAD;
})) found.number
asked_from Bound found =
    option_map
    (λ run. bound (record { run = run; radius = pos (unwrap_or found.radius DEFAULT_RADIUS) }))
    (price_from found)
asked_from Fixed found = option_map fixed (price_from found)
asked_from Audit found =
    with_both (names_from found) found.report_name (λ names report_name. audit (record {
      case_name = names.case_name;
      schedule_name = names.schedule_name;
      report_name = report_name;
      workers = unwrap_or found.workers DEFAULT_WORKERS;
    }))
asked_from Settle found = option_map settle (settle_from found)
asked_from Certify found =
    with_both (settle_from found) found.mixture_name (λ names mixture_name. certify (record {
      names = names;
      mixture_name = mixture_name;
      radius = pos (unwrap_or found.radius DEFAULT_RADIUS);
    }))
asked_from Convex found = option_map (λ names. convex (record {
  case_name = names.case_name;
  schedule_name = names.schedule_name;
  within = unwrap_or found.within DEFAULT_WITHIN;
  rounds = found.rounds;
})) (names_from found)
