use Rattle.std.proofs.Common.{◌≡◌, ◌∙◌, ap, sym, arith}
use Rattle.std.specs.Char.{is_ascii_digit}
use Rattle.std.specs.List.{list_all}
use Rattle.std.proofs.lemmas.List.{take_all}
use Rattle.gs1_ids.proofs.Decided.{Decides-digits}
use Rattle.gs1_ids.proofs.digits.are_digits.Goals as goal

pub returns : goal.returns
returns c =
    let text = c.args.text.now in
    let all : c.loop-byte.all ≡ list_all is_ascii_digit text =
    c.loop-byte.invariant ∙ ap (list_all is_ascii_digit) (take_all c.loop-byte.byte-index text (omega arith)) in
    let d = Decides-digits text in
    (λ h. d.0 (sym all ∙ h), λ p. all ∙ d.1 p)
