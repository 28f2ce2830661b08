use Rattle.std.proofs.Common.{◌∙◌, sym}
use Rattle.hub_texts.proofs.Digits.{short_value}
use Rattle.hub_texts.proofs.cancel.positive.Goals as goal

pub returns-in_err-number : goal.returns-in_err-number
returns-in_err-number c =
    absurd (cc (
      short_value c.args.most c.args.digits.now c.requires (sym c.are_digits.ensures ∙ c.if-not-are_digits.false),
      c.value_of.ensures,
      c.in_err-number.was,
    ))
