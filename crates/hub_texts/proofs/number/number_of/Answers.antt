use Rattle.std.proofs.Common.{rules, ◌≡◌, ◌∙◌, ap, cond, sym, true, Bool, ℕ, Some, None, List}
use Rattle.std.specs.Result.{result_ok}
use Rattle.std.specs.Str.{IsUtf8}
use Rattle.edi_base.specs.Limits.{are_digits, number_of}
use Rattle.hub_texts.proofs.Digits.{read, digits_are_text}
use Rattle.hub_texts.proofs.number.number_of.Goals as goal

pub unwrap-text-requires : goal.unwrap-text-requires
unwrap-text-requires c =
    let digits : are_digits 1 14 c.args.digits.now ≡ true = search rules in
    let text : IsUtf8 c.args.digits.now = digits_are_text 14 c.args.digits.now digits in
    search rules

pub returns : goal.returns
returns c =
    let text : List ℕ = c.unwrap-text.result.now in
    let same : text ≡ c.args.digits.now = search rules in
    let digits : are_digits 1 14 c.args.digits.now ≡ true = search rules in
    let again : are_digits 1 14 text ≡ true = ap (are_digits 1 14) same ∙ digits in
    c.ok.ensures.value ∙ ap result_ok (read text c.parse.result c.parse.ensures.value.0 again)
    ∙ ap (λ (t : List ℕ). Some (number_of t)) same
    ∙ ap (λ (b : Bool). cond b (Some (number_of c.args.digits.now)) None) (sym digits)
