use Rattle.std.proofs.Common.{◌≡◌, ℕ, List, take, drop, length, ◌++◌, ◌∙◌, ap, sym, subst, Some, IfSome, take_at}
use Rattle.std.proofs.lemmas.List.{take_min}
use Rattle.http_messages.proofs.Filling.{ended_before, ended_with}
use Rattle.http_messages.specs.Body.{body_in}
use Rattle.http_messages.proofs.body.read_body.Goals as goal

pub returns-then-end-size-clause-body : goal.returns-then-end-size-clause-body
returns-then-end-size-clause-body g c =
    ended_before _ _ c.args.front.now c.deref_mut.result.now c.fill.new.bytes c.args.size c.in_ok-end.end
    (record {
      kept = take c.min.result c.args.front.now;
      kept_is = ap (λ n. take n c.args.front.now) c.min.ensures ∙ take_min c.args.size c.args.front.now;
      begins = ap (take (length (take c.min.result c.args.front.now))) c.deref_mut.ensures.value ∙ c.in_ok-bytes.ensures.front;
      size_is = ap length c.deref_mut.ensures.value ∙ c.in_ok-bytes.ensures.len;
      same_size = c.fill.auto.bytes;
      fills = c.in_ok-end.ensures.bytes;
    }) c.if-end-size.true

pub returns-clause-body : goal.returns-clause-body
returns-clause-body g c =
    let whole = ended_with _ _ c.args.front.now c.deref_mut.result.now c.fill.new.bytes c.args.size c.in_ok-end.end
    (record {
      kept = take c.min.result c.args.front.now;
      kept_is = ap (λ n. take n c.args.front.now) c.min.ensures ∙ take_min c.args.size c.args.front.now;
      begins = ap (take (length (take c.min.result c.args.front.now))) c.deref_mut.ensures.value ∙ c.in_ok-bytes.ensures.front;
      size_is = ap length c.deref_mut.ensures.value ∙ c.in_ok-bytes.ensures.len;
      same_size = c.fill.auto.bytes;
      fills = c.in_ok-end.ensures.bytes;
    }) c.if-end-size.false in
    let same : c.from_vec.result ≡ c.fill.new.bytes =
    c.from_vec.ensures ∙ take_at c.fill.new.bytes (drop (length c.fill.new.bytes) c.in_ok-bytes.bytes.items) c.in_ok-bytes.bytes.len
    (c.fill.auto.bytes ∙ c.deref_mut.ensures.len) in
    let P : List ℕ → Type 0 = λ bytes. IfSome (g.R.Source.remaining c.args.source.now)
    (λ left. Some bytes ≡ body_in c.args.size (c.args.front.now ++ left)) in
    subst P (sym same) whole
