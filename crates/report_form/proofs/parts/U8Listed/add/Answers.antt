use Rattle.report_form.proofs.Common.{sym}
use Rattle.report_form.proofs.Lemmas.{escaped-plain, escaped-control, escaped-behind}
use Rattle.report_form.proofs.parts.U8Listed.add.Goals as goal

pub returns-then-is_unescaped_byte : goal.returns-then-is_unescaped_byte
returns-then-is_unescaped_byte g c = rw (escaped-plain c.args.self (sym c.if-is_unescaped_byte.ensures))
    c.add_bytes.ensures

pub returns-then-self-lt32 : goal.returns-then-self-lt32
returns-then-self-lt32 g c =
    rw (
      escaped-control c.args.self (sym c.if-is_unescaped_byte.ensures) c.if-self-lt32.true,
      ← c.hex_digit.ensures,
      ← c.hex_digit-then-self-lt32.ensures,
    ) c.add_bytes-then-self-lt32.ensures

pub returns-else-self-lt32 : goal.returns-else-self-lt32
returns-else-self-lt32 g c =
    rw (escaped-behind c.args.self (sym c.if-is_unescaped_byte.ensures) c.if-self-lt32.false)
    c.add_bytes-else-self-lt32.ensures
