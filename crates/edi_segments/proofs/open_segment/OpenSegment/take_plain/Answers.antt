use Rattle.std.proofs.Common.{◌≡◌, ◌+◌, ◌++◌, ◌≤◌, List, ℕ, take, true, ap, subst, ◌∙◌, arith}
use Rattle.std.proofs.lemmas.List.{length-take}
use Rattle.edi_segments.specs.Plain.{are_plain}
use Rattle.edi_segments.specs.SegmentText.{text_in}
use Rattle.edi_segments.specs.Text.{open_text}
use Rattle.edi_segments.proofs.Flat.{part_more}
use Rattle.edi_segments.proofs.Runs.{take-take_le}
use Rattle.edi_segments.proofs.OpenText.{grown_same, still, text_bytes, plain_text, run_is_plain, run_is_unusual}
use Rattle.edi_segments.proofs.open_segment.OpenSegment.take_plain.Goals as goal

pub invariant_of-self : goal.invariant_of-self
invariant_of-self c =
    let o = c.self.inside.parts in
    let t = c.self.inside.text in
    let count = c.take_run-count.result in
    let window : List ℕ = take c.min.result c.args.bytes.now in
    let run : List ℕ = take count window in
    let fits : t.filled + count ≤ t.bytes.len =
    omega (
      arith,
      c.take_run-count.ensures.within,
      length-take c.min.result c.args.bytes.now,
      c.room.ensures,
      c.min.ensures,
      c.min-room.ensures,
      c.self.invariant.room,
    ) in
    record {
      room = fits;
      kept =
          still (text_in t) _ run o c.take_run-count.new.self c.self.invariant.kept
          (grown_same t.kept _ _ run
          (part_more t.bytes.items c.deref_mut.result.now c.take_run-count.new.too window _ t.bytes.len t.filled _
          count t.bytes.ok.0 c.deref_mut.ensures.value c.take_run-count.ensures.copied c.take_run-count.ensures.within fits))
          (ap open_text c.take_run-count.ensures.taken ∙ text_bytes o run
          ∙ ap (λ l. open_text o ++ l) (plain_text run (run_is_unusual c.args.service.now run c.take_run-count.ensures.run)));
    }

pub returns-clause-plain : goal.returns-clause-plain
returns-clause-plain c =
    let run : List ℕ = take c.take_run-count.result (take c.min.result c.args.bytes.now) in
    let small : c.take_run-count.result ≤ c.min.result =
    omega (arith, c.take_run-count.ensures.within, length-take c.min.result c.args.bytes.now) in
    subst (λ (l : List ℕ). are_plain c.args.service.now l ≡ true) (take-take_le c.take_run-count.result c.min.result c.args.bytes.now small)
    (run_is_plain c.args.service.now run c.take_run-count.ensures.run)
