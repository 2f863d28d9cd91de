-- The status of each fault, and its line (this project's profile).
use Rattle.std.specs.Prelude.{ℕ, List, [], ◌∷◌, ◌++◌, codes}
use Rattle.std.specs.List.{concat}
use Rattle.hull_words.specs.declared.word_fault.WordFault.{WordFault}
use Rattle.hull_words.specs.Codes.{code_number as word_code}
use Rattle.uc_text.specs.declared.fault.TextFault.{TextFault}
use Rattle.uc_text.specs.Codes.{number_of as text_code}
use Rattle.uc_field.specs.declared.fault.FieldFault.{FieldFault}
use Rattle.uc_field.specs.Sites.{key_of, code_number as field_code}
use Rattle.uc_plan.specs.declared.fault.ShapeFault.{ShapeFault}
use Rattle.uc_plan.specs.Shapes.{shape_number as shape_code}
use Rattle.uc_prices.specs.declared.fault.PriceFault.{PriceFault}
use Rattle.uc_prices.specs.Faults.{code_number as price_code, key_of as price_key}
use Rattle.uc_mixture.specs.declared.fault.ShareFault.{ShareFault}
use Rattle.uc_mixture.specs.Faults.{code_number as share_code}
use Rattle.gap_proof.specs.declared.mixture_check.EntryFault.{EntryFault}
use Rattle.plan_check.specs.declared.RuleFault.{RuleFault}
use Rattle.uc_model.specs.declared.kinds.Kind.{Kind}
use Rattle.uc_model.specs.Refusals.{rule_number}
use Rattle.report_form.specs.Numerals.{numeral, signed_numeral}
use Rattle.hull_fault.specs.declared.fault.FileKind.{FileKind}
use Rattle.hull_fault.specs.declared.fault.FileKind.TheVariants.{CaseFile, ScheduleFile}
use Rattle.hull_fault.specs.declared.fault.FileKind.TheVariants.{PricesFile, MixtureFile}
use Rattle.hull_fault.specs.declared.fault.ReportCode.{ReportCode}
use Rattle.hull_fault.specs.declared.fault.TopFault.{TopFault}
use Rattle.hull_fault.specs.declared.fault.TopFault.TheVariants as faults
use Rattle.hull_fault.specs.Words.{kind_word, file_word, file_status, report_number}

-- the status that a run with this fault answers, and that its line begins with
abbrev pub status_of : TopFault → ℕ
status_of (faults.Words f) = 1
status_of (faults.Read file) = 2
status_of (faults.CaseText f) = 3
status_of (faults.CaseField f) = 3
status_of (faults.PlanText f) = 4
status_of (faults.PlanShape f) = 4
status_of (faults.PlanRule f) = 4
status_of (faults.TooBig file) = file_status file
status_of (faults.Work proposals units periods) = 5
status_of faults.Memory = 7
status_of (faults.Report code line) = 8
status_of (faults.PricesText f) = 9
status_of (faults.PricesValue f) = 9
status_of (faults.MixtureText f) = 10
status_of (faults.MixtureShare f) = 10
status_of (faults.MixtureRule f) = 10

-- ---- what the line tells behind the status

unfoldable pub words_told : WordFault → List ℕ
words_told f =
    concat (codes "words " ∷ numeral (word_code f.code) ∷ codes " " ∷ numeral f.position ∷ [])

unfoldable pub read_told : FileKind → List ℕ
read_told file = concat (codes "read " ∷ file_word file ∷ [])

-- a fault of the text of a case, of a schedule, of prices or of a mixture
unfoldable pub text_told : FileKind → TextFault → List ℕ
text_told file f = concat (
    file_word file ∷ codes " " ∷ numeral (text_code f.code) ∷ codes " at " ∷ numeral f.offset ∷ [])

-- which unit a fault is of
unfoldable pub unit_told : Kind → ℕ → List ℕ
unit_told kind unit =
    concat (codes " kind " ∷ kind_word kind ∷ codes " unit " ∷ numeral unit ∷ [])

unfoldable pub field_told : FieldFault → List ℕ
field_told f =
    concat (codes "case " ∷ numeral (field_code f.code) ∷ codes " field " ∷ key_of f.field ∷ [])
    ++ unit_told f.kind f.unit ++ concat (codes " item " ∷ numeral f.item ∷ [])

unfoldable pub shape_told : ShapeFault → List ℕ
shape_told f =
    concat (codes "schedule " ∷ numeral (shape_code f.code) ∷ [])
    ++ unit_told f.kind f.unit ++ concat (codes " item " ∷ numeral f.item ∷ [])

unfoldable pub rule_told : RuleFault → List ℕ
rule_told f =
    concat (codes "schedule " ∷ numeral (rule_number f.code) ∷ [])
    ++ unit_told f.kind f.unit ++ concat (codes " period " ∷ numeral f.period
    ∷ codes " left " ∷ signed_numeral f.left ∷ codes " right " ∷ signed_numeral f.right ∷ [])

-- a file has too many bytes
unfoldable pub too_big_told : FileKind → List ℕ
too_big_told file = concat (file_word file ∷ codes " 32" ∷ [])

unfoldable pub work_told : (proposals units periods : ℕ) → List ℕ
work_told proposals units periods = concat (
    codes "work " ∷ numeral proposals ∷ codes " " ∷ numeral units ∷ codes " " ∷ numeral periods
    ∷ [])

unfoldable pub report_told : (code : ReportCode) (line : ℕ) → List ℕ
report_told code line = concat (
    codes "report " ∷ numeral (report_number code) ∷ codes " at " ∷ numeral line ∷ [])

unfoldable pub price_told : PriceFault → List ℕ
price_told f = concat (
    codes "prices " ∷ numeral (price_code f.code) ∷ codes " field " ∷ price_key f.field
    ∷ codes " item " ∷ numeral f.item ∷ [])

unfoldable pub share_told : ShareFault → List ℕ
share_told f =
    concat (codes "mixture " ∷ numeral (share_code f.code) ∷ [])
    ++ unit_told f.kind f.unit
    ++ concat (codes " entry " ∷ numeral f.entry ∷ codes " item " ∷ numeral f.item ∷ [])

-- a rule that an entry of a mixture breaks
unfoldable pub entry_told : EntryFault → List ℕ
entry_told f =
    concat (codes "mixture " ∷ numeral (rule_number f.fault.code) ∷ [])
    ++ unit_told f.fault.kind f.fault.unit ++ concat (codes " entry " ∷ numeral f.entry
    ∷ codes " period " ∷ numeral f.fault.period ∷ codes " left " ∷ signed_numeral f.fault.left
    ∷ codes " right " ∷ signed_numeral f.fault.right ∷ [])

abbrev pub fault_told : TopFault → List ℕ
fault_told (faults.Words f) = words_told f
fault_told (faults.Read file) = read_told file
fault_told (faults.CaseText f) = text_told CaseFile f
fault_told (faults.CaseField f) = field_told f
fault_told (faults.PlanText f) = text_told ScheduleFile f
fault_told (faults.PlanShape f) = shape_told f
fault_told (faults.PlanRule f) = rule_told f
fault_told (faults.TooBig file) = too_big_told file
fault_told (faults.Work proposals units periods) = work_told proposals units periods
fault_told faults.Memory = codes "memory"
fault_told (faults.Report code line) = report_told code line
fault_told (faults.PricesText f) = text_told PricesFile f
fault_told (faults.PricesValue f) = price_told f
fault_told (faults.MixtureText f) = text_told MixtureFile f
fault_told (faults.MixtureShare f) = share_told f
fault_told (faults.MixtureRule f) = entry_told f

-- ---- the line

unfoldable pub status_told : ℕ → List ℕ
status_told status = concat (codes "fault " ∷ numeral status ∷ codes " " ∷ [])

abbrev pub fault_line : TopFault → List ℕ
fault_line f = status_told (status_of f) ++ fault_told f ++ codes "\n"
