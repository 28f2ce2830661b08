use Rattle.std.proofs.Common.{◌≡◌, ◌+◌, ◌≤◌, None, Some, Result, Ok, Err, OnErr, refl, sym, ap, ap₂, subst, ◌∙◌}
use Rattle.std.specs.Option.{option_map}
use Rattle.std.proofs.lemmas.Option.{same_Some}
use Rattle.hub_order_lines.specs.Book.{facts_among, lines_in, with_row, answered_row}
use Rattle.hub_order_lines.specs.Changed.{now_of, IsSetOf}
use Rattle.hub_order_lines.specs.declared.facts.LineFacts.{LineFacts}
use Rattle.hub_order_lines.proofs.Setting.{now_found, now_ordered, becomes_set, is_set_of, keeps_after, keeps_same, set_is}
use Rattle.hub_order_lines.proofs.Setting.{found_there, now_same}
use Rattle.hub_order_lines.proofs.book.Book.set.Goals as goal

pub returns-in_default : goal.returns-in_default
returns-in_default c = record {
  set = λ line at.
      let changed = c.self.inside.changed in
      let none : facts_among (lines_in c.args.self.now c.args.order.now) c.args.number c.args.gtin.now ≡ None =
      ap (λ book. facts_among (lines_in book c.args.order.now) c.args.number c.args.gtin.now) (sym c.self.view_is)
      ∙ now_found c.self.inside.orders.now changed c.self.invariant c.args.order.now c.args.number c.args.gtin.now
      ∙ ap (option_map (now_of changed))
      (sym c.line.ensures.line ∙ ap (λ o. option_map (λ line. line.now) o) c.in_default.is) in
      absurd (cc);
  kept = λ none. (refl, refl);
  err = tt;
}

pub invariant_of-self : goal.invariant_of-self
invariant_of-self c =
    keeps_same c.self.inside.changed c.insert.new.self c.in_err-insert.ensures.err c.self.inside.orders.now c.self.invariant

-- the line to be set is found in the orders
base_found : (c : goal.Joined-branch-3)
    → facts_among (lines_in c.self.inside.orders.now c.args.order.now) c.args.number c.args.gtin.now ≡ Some c.in-Some.line.now
base_found c = sym c.line.ensures.line ∙ ap (λ o. option_map (λ line. line.now) o) c.in-Some.is

found_now : (c : goal.Joined-branch-3)
    → facts_among (lines_in c.args.self.now c.args.order.now) c.args.number c.args.gtin.now
    ≡ Some (now_of c.self.inside.changed c.in-Some.line.now)
found_now c =
    ap (λ book. facts_among (lines_in book c.args.order.now) c.args.number c.args.gtin.now) (sym c.self.view_is)
    ∙ now_found c.self.inside.orders.now c.self.inside.changed c.self.invariant c.args.order.now c.args.number c.args.gtin.now
    ∙ ap (option_map (now_of c.self.inside.changed)) (base_found c)

abbrev set_to : goal.Joined-branch-3 → LineFacts
set_to c = record { row = c.in_ok-with_quantities.field-0; despatched = c.in-Some.line.now.despatched }

it_is : (c : goal.Joined-branch-3) → IsSetOf c.in-Some.line.now (set_to c)
it_is c =
    let base = c.in-Some.line.now in
    let row = c.args.row.now in
    is_set_of base (set_to c) row.open_qty row.refused row.cancelled row.answer c.in_ok-with_quantities.ensures refl
    (subst (λ ordered. row.open_qty + row.refused + row.cancelled ≤ ordered)
    (now_ordered c.self.inside.orders.now c.self.inside.changed c.self.invariant c.args.order.now c.args.number c.args.gtin.now base
    (base_found c))
    (c.requires.covered (now_of c.self.inside.changed base) (found_now c)))

pub invariant_of-self-2 : goal.invariant_of-self-2
invariant_of-self-2 c =
    let base = c.in-Some.line.now in
    let orders = c.self.inside.orders.now in
    keeps_after orders c.args.order.now c.args.number c.args.gtin.now base c.line.ensures.once c.line.ensures.rise (base_found c)
    c.self.inside.changed c.insert.new.self c.self.invariant (set_to c)
    (becomes_set c.self.inside.changed c.insert.new.self c.as_slice.result base (set_to c) c.as_slice.ensures
    c.in_ok-insert.ensures.updates.0) (it_is c)

pub returns-in_err-with_quantities-clause-kept : goal.returns-in_err-with_quantities-clause-kept
returns-in_err-with_quantities-clause-kept c none = absurd (
    found_there c.self.inside.orders.now c.args.self.now c.self.inside.changed c.self.invariant c.self.view_is
    c.args.order.now c.args.number c.args.gtin.now c.in-Some.line.now
    (sym c.line.ensures.line ∙ ap (λ o. option_map (λ line. line.now) o) c.in-Some.is) none)

pub returns-in_err-insert-clause-kept : goal.returns-in_err-insert-clause-kept
returns-in_err-insert-clause-kept c none = absurd (
    found_there c.self.inside.orders.now c.args.self.now c.self.inside.changed c.self.invariant c.self.view_is
    c.args.order.now c.args.number c.args.gtin.now c.in-Some.line.now
    (sym c.line.ensures.line ∙ ap (λ o. option_map (λ line. line.now) o) c.in-Some.is) none)

-- a fact where a call failed
on_err : {T E P : Type 0} (r : Result T E) → P → OnErr r P
on_err (Ok x) it = tt
on_err (Err e) it = it

pub returns-in_err-insert-clause-err : goal.returns-in_err-insert-clause-err
returns-in_err-insert-clause-err c =
    on_err c.from_residual-in_err-insert.result
    (now_same c.self.inside.changed c.insert.new.self c.in_err-insert.ensures.err c.self.inside.orders.now
    ∙ c.self.view_is)

pub returns : goal.returns
returns c = record {
  set = λ line at.
      let base = c.in-Some.line.now in
      let row = c.args.row.now in
      let orders = c.self.inside.orders.now in
      let changed = c.self.inside.changed in
      let it : now_of changed base ≡ line = same_Some (now_of changed base) line (sym (found_now c) ∙ at) in
      set_is orders c.args.order.now c.args.number c.args.gtin.now base c.line.ensures.once c.line.ensures.rise (base_found c) changed
      c.insert.new.self c.self.invariant (set_to c)
      (becomes_set changed c.insert.new.self c.as_slice.result base (set_to c) c.as_slice.ensures c.in_ok-insert.ensures.updates.0)
      row.open_qty row.refused row.cancelled row.answer c.in_ok-with_quantities.ensures refl
      ∙ ap₂ (λ (one : LineFacts) book. with_row (answered_row one.row row.open_qty row.refused row.cancelled row.answer) book) it
      c.self.view_is;
  kept = λ none. let there = found_now c in absurd (cc);
  err = tt;
}
