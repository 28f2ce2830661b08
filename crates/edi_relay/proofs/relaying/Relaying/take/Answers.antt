use Rattle.std.proofs.Common.{◌≡◌, ℕ, true, List, [], ◌∷◌, ◌++◌, Result, Ok, Err, sym, ◌∙◌}
use Rattle.std.specs.Prelude.{OnOk}
use Rattle.std.proofs.lemmas.Bool.{true≢false}
use Rattle.edi_segments.specs.declared.segment.Segment.{Segment}
use Rattle.edi_segments.specs.SegmentRef.{segment_in}
use Rattle.edi_envelope.specs.declared.check.EnvelopeCheck.{EnvelopeCheck}
use Rattle.edi_envelope.specs.Check.{Checked, is_fine}
use Rattle.edi_relay.specs.declared.mails.Mails.{Mails}
use Rattle.edi_relay.specs.declared.relay.RelayWords.{RelayWords}
use Rattle.edi_relay.specs.Mails.{WritesMails}
use Rattle.edi_relay.specs.Relaying.{RelayingStands}
use Rattle.edi_relay.proofs.relaying.Relaying.take.Goals as goal

-- what is written is kept while no fault is certain
stands : {A E : Type 0} (words : RelayWords) (mark : ℕ) (lent : List Segment) (check : EnvelopeCheck) (mails : Mails)
    → (r : Result A E)
    → Checked lent check
    → (is_fine check ≡ true → OnOk r (WritesMails words mark lent mails))
    → OnOk r (RelayingStands words mark lent (record { check = check; mails = mails }))
stands words mark lent check mails (Ok x) checked kept = record { checked = checked; kept = kept }
stands words mark lent check mails (Err e) checked kept = tt

pub returns : goal.returns
returns c = λ words lent before.
    let next = c.in_ok-place.ensures in
    stands words c.args.mark (lent ++ segment_in c.args.segment.now ∷ []) c.next.new.self c.take.new.self c.take.result
    (next.checked lent before.checked)
    (λ fine. c.take.ensures words lent (before.kept (next.for_good fine)) (λ e. true≢false (sym fine ∙ next.refused.0 e))
    (next.placed lent before.checked))
