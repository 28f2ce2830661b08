use Rattle.std.proofs.Common.{◌≡◌, ℕ, ◌+◌, ◌<◌, ◌≤◌, suc, List, [], ◌∷◌, ◌++◌, length, get_or, drop, map}
use Rattle.std.proofs.Common.{sym, ap, ◌∙◌, append_assoc, add-one}
use Rattle.std.proofs.lemmas.List.{append-nil, drop_all}
use Rattle.std.proofs.Math.Seq.{drop-cons}
use Rattle.edi_segments.specs.declared.segment.Segment.{Segment}
use Rattle.edi_tokens.specs.Text.{text, segment_text}
use Rattle.edi_envelope.specs.Mail.{renumbered}
use Rattle.edi_envelope.proofs.mail.mail_message_text.Goals as goal

-- one more segment
one_more : (body new whole : List ℕ) (xs ys : List Segment) (i : ℕ) (s : Segment) → xs ≡ ys
    → i < length xs
    → s ≡ get_or xs i s
    → new ≡ body ++ text (renumbered s ∷ [])
    → body ++ text (map renumbered (drop i ys)) ≡ whole
    → new ++ text (map renumbered (drop (i + 1) ys)) ≡ whole
one_more body new whole xs ys i s same lt is more so_far =
    let rest = text (map renumbered (drop (i + 1) xs)) in
    let next : drop i xs ≡ s ∷ drop (i + 1) xs =
    drop-cons xs i s lt
    ∙ ap (λ (y : Segment). y ∷ drop (suc i) xs) (sym is)
    ∙ ap (λ (k : ℕ). s ∷ drop k xs) (sym (add-one i)) in
    ap (λ (zs : List Segment). new ++ text (map renumbered (drop (i + 1) zs))) (sym same)
    ∙ ap (λ (t : List ℕ). t ++ rest) more
    ∙ append_assoc body (text (renumbered s ∷ [])) rest
    ∙ ap (λ (t : List ℕ). body ++ (t ++ rest)) (append-nil (segment_text (renumbered s)))
    ∙ ap (λ (zs : List Segment). body ++ text (map renumbered zs)) (sym next)
    ∙ ap (λ (zs : List Segment). body ++ text (map renumbered (drop i zs))) same
    ∙ so_far

-- no segment is left
all_written : (body whole : List ℕ) (xs ys : List Segment) (i : ℕ) → xs ≡ ys
    → length xs ≤ i
    → body ++ text (map renumbered (drop i ys)) ≡ whole
    → body ≡ whole
all_written body whole xs ys i same le so_far =
    sym (append-nil body)
    ∙ ap (λ (zs : List Segment). body ++ text (map renumbered zs)) (sym (drop_all i xs le))
    ∙ ap (λ (zs : List Segment). body ++ text (map renumbered (drop i zs))) same
    ∙ so_far

pub loop-segment-preserved : goal.loop-segment-preserved
loop-segment-preserved c =
    one_more c.loop-segment.body.items c.put_numbered.new.out.items _ _ _ c.loop-segment.segment-index c.segment-item.result
    c.as_slice-segment-items.ensures c.loop-segment-test.true c.segment-item.is c.in_ok-put_numbered.ensures
    c.loop-segment.invariant

pub returns : goal.returns
returns c =
    c.from_vec.ensures
    ∙ all_written c.loop-segment.body.items _ _ _ c.loop-segment.segment-index c.as_slice-segment-items.ensures
    c.loop-segment-test.false c.loop-segment.invariant
