use Rattle.std.proofs.Common.{◌≡◌, Some, None, refl, sym, ap, subst, ◌∙◌}
use Rattle.std.proofs.lemmas.Bool.{true≢false}
use Rattle.std.specs.Option.{option_copied_mut}
use Rattle.std.specs.Prelude.{IsSome}
use Rattle.std.specs.Map.{lookup}
use Rattle.hub_naming.specs.Lines.{is_named, NamesMore}
use Rattle.hub_naming.proofs.Numbers.{on_ok}
use Rattle.hub_naming.proofs.Numbers.{at, names_more, others_kept}
use Rattle.hub_naming.proofs.lines.put_line.Goals as goal

pub returns-in-Some-clause-others : goal.returns-in-Some-clause-others
returns-in-Some-clause-others c = on_ok c.add.result (λ others.
    let order = c.as_slice-order.result.now in
    let old = c.args.named.now.entries in
    let lines = c.add.new.self in
    let new = (c.get_mut.follows.lender lines).entries in
    let found : lookup (at order) old ≡ Some c.in-Some.lines.now = sym c.get_mut.ensures.value ∙ ap option_copied_mut c.in-Some.is in
    let updates = (c.get_mut.follows.holds lines).3 (subst IsSome (sym found) refl) in
    names_more order lines old new updates.1 (others_kept c.as_slice-order.result old new updates.2)
    (λ number named. others number (sym (ap (λ one. is_named one number) found) ∙ named))) c.add.ensures.others

pub returns-clause-others : goal.returns-clause-others
returns-clause-others c =
    let order = c.as_slice-order.result.now in
    let old = c.get_mut.follows.lender-at-none.entries in
    let new = c.insert.new.self.entries in
    let stays : old ≡ c.args.named.now.entries = ap (λ named. named.entries) c.get_mut.follows.holds-at-none in
    let none : lookup (at order) old ≡ None =
    ap (lookup (at order)) stays ∙ sym c.get_mut.ensures.value ∙ ap option_copied_mut c.in_default.is in
    let updates = c.in_ok-insert.ensures.updates in
    subst (λ old. NamesMore old new) stays
    (names_more order c.add-2.new.self old new updates.1 (others_kept c.as_slice-order.result old new updates.2)
    (λ number named. absurd (true≢false (sym named ∙ ap (λ one. is_named one number) none))))
