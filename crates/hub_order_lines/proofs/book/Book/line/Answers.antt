use Rattle.std.proofs.Common.{List, ℕ, None, Some, sym, ap, subst, ◌∙◌, option_copied}
use Rattle.std.specs.Option.{option_map, IfSome}
use Rattle.hub_order_lines.specs.Book.{facts_among, lines_in}
use Rattle.hub_order_lines.specs.Changed.{set_at, now_of, IsSetOf}
use Rattle.hub_order_lines.proofs.Setting.{now_found, looked_up_now, set_of_found}
use Rattle.hub_order_lines.proofs.book.Book.line.Goals as goal

pub returns-in_err-line-clause-line : goal.returns-in_err-line-clause-line
returns-in_err-line-clause-line c =
    let changed = c.self.inside.changed in
    let orders = c.self.inside.orders.now in
    ap (λ o. option_map (λ line. line.now) o) c.from_residual.ensures
    ∙ sym (ap (λ book. facts_among (lines_in book c.args.order.now) c.args.number c.args.gtin.now) (sym c.self.view_is)
    ∙ now_found orders changed c.self.invariant c.args.order.now c.args.number c.args.gtin.now
    ∙ ap (option_map (now_of changed))
    (sym c.line.ensures.line ∙ ap (λ o. option_map (λ line. line.now) o) c.in_err-line.was))

pub returns-in-Some-clause-line : goal.returns-in-Some-clause-line
returns-in-Some-clause-line c =
    let changed = c.self.inside.changed in
    let base = c.in_ok-line.line.now in
    sym (looked_up_now c.self.inside.orders.now c.args.self.now changed c.self.invariant c.self.view_is c.args.order.now c.args.number
    c.args.gtin.now base (sym c.line.ensures.line ∙ ap (λ o. option_map (λ line. line.now) o) c.in_ok-line.was)
    (Some c.in-Some.changed.now)
    (ap (λ (n : List ℕ). set_at changed n base.row.line) (sym c.as_slice.ensures) ∙ sym c.get.ensures.value
    ∙ ap option_copied c.in-Some.is))

pub returns-in-Some-clause-covered : goal.returns-in-Some-clause-covered
returns-in-Some-clause-covered c =
    let changed = c.self.inside.changed in
    let base = c.in_ok-line.line.now in
    (subst (λ o. IfSome o (IsSetOf base))
    (ap (λ (n : List ℕ). set_at changed n base.row.line) (sym c.as_slice.ensures) ∙ sym c.get.ensures.value
    ∙ ap option_copied c.in-Some.is)
    (set_of_found c.self.inside.orders.now changed c.self.invariant c.args.order.now c.args.number c.args.gtin.now base
    (sym c.line.ensures.line ∙ ap (λ o. option_map (λ line. line.now) o) c.in_ok-line.was))).covered

pub returns-in-None-clause-line : goal.returns-in-None-clause-line
returns-in-None-clause-line c =
    let changed = c.self.inside.changed in
    let base = c.in_ok-line.line.now in
    sym (looked_up_now c.self.inside.orders.now c.args.self.now changed c.self.invariant c.self.view_is c.args.order.now c.args.number
    c.args.gtin.now base (sym c.line.ensures.line ∙ ap (λ o. option_map (λ line. line.now) o) c.in_ok-line.was) None
    (ap (λ (n : List ℕ). set_at changed n base.row.line) (sym c.as_slice.ensures) ∙ sym c.get.ensures.value
    ∙ ap option_copied c.in-None.is))
