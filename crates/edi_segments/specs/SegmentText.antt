-- A text that is kept as its bytes come, or is not kept.
use Rattle.std.specs.Prelude.{◌≡◌, ◌++◌, ◌≤◌, ℕ, List, take, Option, Some, None, if◌then◌else◌, vec_len}
use Rattle.edi_segments.specs.declared.segment_text.SegmentText.{SegmentText}

abbrev pub text_in : SegmentText → Option (List ℕ)
text_in s = if s.kept then Some (take s.filled s.bytes.items) else None

abbrev pub HasTextRoom : SegmentText → Type 0
HasTextRoom s = s.filled ≤ vec_len s.bytes

-- if it is kept, it is what was kept before, and these bytes
abbrev pub GrowsBy : List ℕ → Option (List ℕ) → Option (List ℕ) → Type 0
GrowsBy more old None = Unit {0}
GrowsBy more None (Some text) = ⊥
GrowsBy more (Some before) (Some text) = text ≡ before ++ more
