use Rattle.std.proofs.Common.{◌≡◌, ℕ, ◌+◌, true, ◌||◌, nat_eq, ◌∷◌, drop, sym, ap, subst, ◌∙◌}
use Rattle.std.specs.List.{AllByRecursion}
use Rattle.std.proofs.lemmas.List.{drop_more, drop_all}
use Rattle.std.proofs.Math.Bool.{or-true}
use Rattle.edi_base.specs.Seen.{comes_among}
use Rattle.edi_orders.specs.declared.response.AnswerLine.{AnswerLine}
use Rattle.hub_naming.specs.Lines.{has_number}
use Rattle.hub_naming.proofs.Numbers.{one_more, itself}
use Rattle.hub_naming.proofs.lines.numbers_of.Goals as goal

pub loop-line-preserved : goal.loop-line-preserved
loop-line-preserved c = λ later more rest.
    let said = c.args.said.now in
    let line = c.line-item.result in
    let ahead = drop (c.loop-line.line-index + 1) said in
    let keys = c.loop-line.numbers.keys in
    let next = drop_more said c.loop-line.line-index line c.loop-line-test.true ∙ ap (λ one. one ∷ ahead) (sym c.line-item.is) in
    let put : (n : ℕ) → comes_among nat_eq n c.insert.new.self.keys ≡ (nat_eq n c.in-Some.number || comes_among nat_eq n keys) =
    λ n. ap (comes_among nat_eq n) c.in_ok-insert.ensures.keys ∙ one_more n keys c.in-Some.number in
    let here : has_number later line.order_line ≡ true =
    ap (has_number later) c.in-Some.is
    ∙ more c.in-Some.number (put c.in-Some.number
    ∙ ap (λ v. v || comes_among nat_eq c.in-Some.number keys) (itself c.in-Some.number)) in
    c.loop-line.invariant later
    (λ n there. more n (put n ∙ ap (λ v. nat_eq n c.in-Some.number || v) there ∙ or-true (nat_eq n c.in-Some.number)))
    (subst (AllByRecursion (λ (line : AnswerLine). has_number later line.order_line ≡ true)) (sym next) (here, rest))

pub returns : goal.returns
returns c =
    c.loop-line.invariant c.loop-line.numbers.keys (λ n there. there)
    (subst (AllByRecursion (λ (line : AnswerLine). has_number c.loop-line.numbers.keys line.order_line ≡ true))
    (sym (drop_all c.loop-line.line-index c.args.said.now c.loop-line-test.false)) tt)
