use Rattle.std.proofs.Common.{ℕ, List, ◌+◌, [], ◌∷◌, ◌++◌, drop, ap, ◌∙◌}
use Rattle.std.specs.List.{flat_map}
use Rattle.edi_base.specs.Buffer.{WritesSome}
use Rattle.edi_tokens.specs.Text.{component_text, components_text, element_text}
use Rattle.edi_base.proofs.Going.{goes_none, goes_put, goes_cut, goes_as, puts_cut}
use Rattle.std.proofs.lemmas.List.{nil_from_length}
use Rattle.edi_tokens.proofs.Canonical.{flat_map-drop, flat_map-drop_all}
use Rattle.edi_tokens.proofs.text.put_element.Given as given
use Rattle.edi_tokens.proofs.text.put_element.Goals as goal
use Rattle.edi_tokens.proofs.text.put_element.Goals.{After-put_component}

pub returns-in_err-put-clause-bytes : goal.returns-in_err-put-clause-bytes
returns-in_err-put-clause-bytes g c =
    puts_cut c.from_residual.result c.put.new.self c.from_residual.ensures.0
    (goes_cut (components_text c.args.components.now)
    (goes_none (g.W.Sink.contents c.args.out.now) c.args.buffer.now (element_text c.args.components.now))
    c.in_err-put.ensures.bytes)

-- the first component is next
first_next : (g : given.Over) (c : After-put_component g)
    → WritesSome (g.W.Sink.contents c.args.out.now) (g.W.Sink.contents c.put.new.out) c.args.buffer.now c.put.new.self
    (component_text c.in-Some.first.now ++ flat_map (λ component. 58 ∷ component_text component) c.in-Some.others.now)
    (element_text c.args.components.now)
first_next g c =
    goes_as _ _ (ap components_text c.in-Some.ensures.cases.0)
    (goes_put (goes_none (g.W.Sink.contents c.args.out.now) c.args.buffer.now (element_text c.args.components.now))
    c.in_ok-put.ensures.bytes)

pub returns-in_err-put_component-clause-bytes : goal.returns-in_err-put_component-clause-bytes
returns-in_err-put_component-clause-bytes g c =
    puts_cut c.from_residual-in_err-put_component.result c.put_component.new.buffer c.from_residual-in_err-put_component.ensures.0
    (goes_cut (flat_map (λ component. 58 ∷ component_text component) c.in-Some.others.now)
    (first_next g (goal.at.returns-in_err-put_component-clause-bytes g c).After-put_component)
    (rw c.as_slice.ensures at c.in_err-put_component.ensures.bytes))

pub loop-component-init : goal.loop-component-init
loop-component-init g c = record {
  bytes =
      goes_put (first_next g (goal.at.loop-component-init g c).After-put_component)
      (rw c.as_slice.ensures at c.in_ok-put_component.ensures.bytes);
  flag = c.in_ok-put_component.ensures.flag ∙ c.in_ok-put.ensures.flag;
}

pub returns-in_err-put-2-clause-bytes : goal.returns-in_err-put-2-clause-bytes
returns-in_err-put-2-clause-bytes g c =
    let text = λ (component : List ℕ). 58 ∷ component_text component in
    let next = flat_map-drop text c.in-Some.others.now c.loop-component.component-index c.component-item.result
    c.loop-component-test.true c.component-item.is in
    let others = flat_map text (drop (c.loop-component.component-index + 1) c.in-Some.others.now) in
    puts_cut c.from_residual-in_err-put-2.result c.put-in-loop-component.new.self c.from_residual-in_err-put-2.ensures.0
    (goes_cut (component_text c.component-item.result ++ others) (goes_as _ _ next c.loop-component.invariant.bytes)
    c.in_err-put-2.ensures.bytes)

pub returns-in_err-put_component-2-clause-bytes : goal.returns-in_err-put_component-2-clause-bytes
returns-in_err-put_component-2-clause-bytes g c =
    let text = λ (component : List ℕ). 58 ∷ component_text component in
    let next = flat_map-drop text c.in-Some.others.now c.loop-component.component-index c.component-item.result
    c.loop-component-test.true c.component-item.is in
    let others = flat_map text (drop (c.loop-component.component-index + 1) c.in-Some.others.now) in
    let parted = goes_put {part = 58 ∷ []} {ahead = component_text c.component-item.result ++ others}
    (goes_as _ _ next c.loop-component.invariant.bytes) c.in_ok-put-2.ensures.bytes in
    puts_cut c.from_residual-in_err-put_component-2.result c.put_component-in-loop-component.new.buffer
    c.from_residual-in_err-put_component-2.ensures.0
    (goes_cut others parted (rw c.as_slice-in-loop-component.ensures at c.in_err-put_component-2.ensures.bytes))

pub loop-component-preserved : goal.loop-component-preserved
loop-component-preserved g c =
    let text = λ (component : List ℕ). 58 ∷ component_text component in
    let next = flat_map-drop text c.in-Some.others.now c.loop-component.component-index c.component-item.result
    c.loop-component-test.true c.component-item.is in
    let others = flat_map text (drop (c.loop-component.component-index + 1) c.in-Some.others.now) in
    let parted = goes_put {part = 58 ∷ []} {ahead = component_text c.component-item.result ++ others}
    (goes_as _ _ next c.loop-component.invariant.bytes) c.in_ok-put-2.ensures.bytes in
    record {
      bytes = goes_put parted (rw c.as_slice-in-loop-component.ensures at c.in_ok-put_component-2.ensures.bytes);
      flag = c.in_ok-put_component-2.ensures.flag ∙ c.in_ok-put-2.ensures.flag ∙ c.loop-component.invariant.flag;
    }

pub returns-in_default-clause-bytes : goal.returns-in_default-clause-bytes
returns-in_default-clause-bytes g c =
    goes_as _ _ (ap components_text (nil_from_length c.args.components.now c.in_default.ensures.cases))
    (goes_put (goes_none (g.W.Sink.contents c.args.out.now) c.args.buffer.now (element_text c.args.components.now))
    c.in_ok-put.ensures.bytes)

pub returns-clause-bytes : goal.returns-clause-bytes
returns-clause-bytes g c =
    goes_as _ _
    (flat_map-drop_all (λ (component : List ℕ). 58 ∷ component_text component) c.in-Some.others.now c.loop-component.component-index
    c.loop-component-test.false) c.loop-component.invariant.bytes
