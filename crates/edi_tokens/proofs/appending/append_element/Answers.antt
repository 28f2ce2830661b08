use Rattle.std.proofs.Common.{[], ◌∷◌}
use Rattle.edi_tokens.proofs.Appended.{kept_after, kept_as, kept_through}
use Rattle.edi_tokens.proofs.appending.append_element.Goals as goal

pub returns-in_err-push-clause-kept : goal.returns-in_err-push-clause-kept
returns-in_err-push-clause-kept c = kept_as c.args.out.now.items c.push.new.self.items c.in_err-push.ensures.items

pub returns-in_err-append_component-clause-kept : goal.returns-in_err-append_component-clause-kept
returns-in_err-append_component-clause-kept c =
    kept_after c.args.out.now.items (43 ∷ []) c.push.new.self.items c.append_component.new.out.items c.in_ok-push.ensures.items
    c.in_err-append_component.ensures.kept

pub returns-clause-kept : goal.returns-clause-kept
returns-clause-kept c =
    kept_after c.args.out.now.items (43 ∷ []) c.push.new.self.items c.append_others.new.out.items c.in_ok-push.ensures.items
    (kept_through c.push.new.self.items c.append_component.new.out.items c.append_others.new.out.items
    c.in_ok-append_component.ensures.kept c.append_others.ensures.kept)
