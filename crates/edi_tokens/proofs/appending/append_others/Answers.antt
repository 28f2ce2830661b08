use Rattle.std.proofs.Common.{◌<◌, ◌≤◌, [], ◌∷◌, ◌++◌, subst, sym, ap, ◌∙◌, append_assoc}
use Rattle.edi_segments.specs.Segment.{element_at}
use Rattle.edi_segments.specs.SegmentRef.{segment_in}
use Rattle.edi_tokens.specs.Text.{component_text, others_text}
use Rattle.edi_tokens.proofs.Appended.{appended, ended, kept_as, kept_by, kept_through}
use Rattle.edi_tokens.proofs.appending.append_others.Goals as goal

pub loop-place-preserved : goal.loop-place-preserved
loop-place-preserved c =
    let components = element_at (segment_in c.args.segment.now).elements c.args.element in
    let i = c.loop-place.place in
    let out = c.loop-place.out.items in
    let new = c.append_component.new.out.items in
    record {
      text =
          appended (λ component. 58 ∷ component_text component) components i c.component.result.now [] out new _
          (subst (λ n. i < n) c.components-place-end.ensures c.loop-place-test.true) (sym c.component.ensures) c.loop-place.invariant.text
          (c.in_ok-append_component.ensures.ok
          ∙ ap (λ l. l ++ component_text c.component.result.now) c.in_ok-push.ensures.items
          ∙ append_assoc out (58 ∷ []) (component_text c.component.result.now));
      kept =
          kept_through c.args.out.now.items c.push.new.self.items new
          (kept_through c.args.out.now.items out c.push.new.self.items c.loop-place.invariant.kept
          (kept_by out (58 ∷ []) c.push.new.self.items c.in_ok-push.ensures.items))
          c.in_ok-append_component.ensures.kept;
    }

pub returns-in_err-push-clause-kept : goal.returns-in_err-push-clause-kept
returns-in_err-push-clause-kept c =
    kept_through c.args.out.now.items c.loop-place.out.items c.push.new.self.items c.loop-place.invariant.kept
    (kept_as c.loop-place.out.items c.push.new.self.items c.in_err-push.ensures.items)

pub returns-in_err-append_component-clause-kept : goal.returns-in_err-append_component-clause-kept
returns-in_err-append_component-clause-kept c =
    kept_through c.args.out.now.items c.push.new.self.items c.append_component.new.out.items
    (kept_through c.args.out.now.items c.loop-place.out.items c.push.new.self.items c.loop-place.invariant.kept
    (kept_by c.loop-place.out.items (58 ∷ []) c.push.new.self.items c.in_ok-push.ensures.items))
    c.in_err-append_component.ensures.kept

pub returns-clause-ok : goal.returns-clause-ok
returns-clause-ok c =
    let components = element_at (segment_in c.args.segment.now).elements c.args.element in
    ended (λ component. 58 ∷ component_text component) components c.loop-place.place c.loop-place.out.items c.args.out.now.items
    (others_text components) (subst (λ n. n ≤ c.loop-place.place) c.components-place-end.ensures c.loop-place-test.false)
    c.loop-place.invariant.text
