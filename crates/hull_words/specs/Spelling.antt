-- The commands and their options (this project's profile).
use Rattle.std.specs.Prelude.{List, [], ◌∷◌, Option, Some, None, if◌then◌else◌, codes}
use Rattle.std.specs.Str.{bytes_eq}
use Rattle.std.specs.Prelude.{ℕ}
use Rattle.hull_words.specs.declared.kinds.CommandKind.{CommandKind}
use Rattle.hull_words.specs.declared.kinds.CommandKind.TheVariants.{Price, Check, Try, Bound, Fixed}
use Rattle.hull_words.specs.declared.kinds.CommandKind.TheVariants.{Audit, Settle, Certify, Convex}
use Rattle.hull_words.specs.declared.kinds.OptionKind.{OptionKind}
use Rattle.hull_words.specs.declared.kinds.OptionKind.TheVariants.{Case, Schedule, Report}
use Rattle.hull_words.specs.declared.kinds.OptionKind.TheVariants.{Proposals, Workers, Ahead}
use Rattle.hull_words.specs.declared.kinds.OptionKind.TheVariants.{Radius, Prices, Mixture}
use Rattle.hull_words.specs.declared.kinds.OptionKind.TheVariants.{Within, Rounds}

-- the command that a word names
abbrev pub command_named : List ℕ → Option CommandKind
command_named word =
    if bytes_eq word (codes "price") then Some Price else
    (if bytes_eq word (codes "check") then Some Check else
    (if bytes_eq word (codes "try") then Some Try else
    (if bytes_eq word (codes "bound") then Some Bound else
    (if bytes_eq word (codes "fixed") then Some Fixed else
    (if bytes_eq word (codes "audit") then Some Audit else
    (if bytes_eq word (codes "settle") then Some Settle else
    (if bytes_eq word (codes "certify") then Some Certify else
    (if bytes_eq word (codes "convex") then Some Convex else None))))))))

-- the options of each command
abbrev pub options : CommandKind → List OptionKind
options Price = Case ∷ Schedule ∷ Proposals ∷ Workers ∷ Ahead ∷ []
options Check = Case ∷ Schedule ∷ []
options Try = Proposals ∷ Workers ∷ Ahead ∷ []
options Bound = Case ∷ Schedule ∷ Proposals ∷ Workers ∷ Ahead ∷ Radius ∷ []
options Fixed = Case ∷ Schedule ∷ Proposals ∷ Workers ∷ Ahead ∷ []
options Audit = Case ∷ Schedule ∷ Report ∷ Workers ∷ []
options Settle = Case ∷ Schedule ∷ Prices ∷ []
options Certify = Case ∷ Schedule ∷ Prices ∷ Mixture ∷ Radius ∷ []
options Convex = Case ∷ Schedule ∷ Within ∷ Rounds ∷ []

-- how an option is spelled behind its two dashes
abbrev pub spelling : OptionKind → List ℕ
spelling Case = codes "case"
spelling Schedule = codes "schedule"
spelling Report = codes "report"
spelling Prices = codes "prices"
spelling Mixture = codes "mixture"
spelling Proposals = codes "proposals"
spelling Workers = codes "workers"
spelling Ahead = codes "ahead"
spelling Radius = codes "radius"
spelling Within = codes "within"
spelling Rounds = codes "rounds"
