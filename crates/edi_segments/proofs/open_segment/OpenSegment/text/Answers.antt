use Rattle.std.proofs.Common.{◌-◌, [], ◌∷◌, ◌++◌, length, take, ap, ◌∙◌, sym}
use Rattle.std.proofs.Common.{List, ℕ}
use Rattle.edi_segments.specs.Reading.{Open}
use Rattle.edi_segments.specs.Machine.{segment_of}
use Rattle.edi_segments.specs.SegmentText.{text_in}
use Rattle.edi_segments.specs.Text.{segment_text}
use Rattle.edi_segments.proofs.OpenText.{ended_text, kept_text}
use Rattle.edi_segments.proofs.open_segment.OpenSegment.text.Goals as goal

pub returns : goal.returns
returns c =
    let o = c.self.inside.parts in
    ap (λ (l : List ℕ). take (length l - 1) l ++ 39 ∷ [])
    (kept_text (text_in c.self.inside.text) c.in_ok-text.text.now o c.self.invariant.kept c.in_ok-text.ensures)
    ∙ ended_text o (sym c.is_whole.ensures ∙ c.if-not-is_whole.false)
    ∙ ap (λ (p : Open). segment_text (segment_of p)) c.self.view_is
