use Rattle.std.proofs.Common.{◌≡◌, ◌+◌, ◌≤◌, length, take, ap, ◌∙◌, arith}
use Rattle.std.proofs.lemmas.List.{length-take-le}
use Rattle.edi_segments.specs.Reading.{Open}
use Rattle.edi_segments.specs.OpenSegment.{with_bytes}
use Rattle.edi_segments.proofs.Flat.{flat-longer, open-longer, part_more}
use Rattle.edi_segments.proofs.flat_segment.FlatSegment.take_run.Goals as goal

pub invariant_of-self : goal.invariant_of-self
invariant_of-self c =
    let s = c.self.inside in
    let room = c.self.invariant.room in
    let bytes = c.args.bytes.now in
    let count = c.copy_run-count.result in
    let within = c.copy_run-count.ensures.within in
    let size : s.size ≡ c.args.self.now.length = ap (λ (o : Open). o.length) c.self.view_is in
    let fits : s.filled + count ≤ s.bytes.len = omega (arith, c.requires.fits, within, size, room.bytes_long, room.filled_within) in
    record {
      flat =
          flat-longer (take s.filled s.bytes.items) (take count bytes) _ _ _ _ _ _ c.self.invariant.flat _
          (part_more s.bytes.items c.deref_mut.result.now c.copy_run-count.new.one bytes _ s.bytes.len s.filled _ count s.bytes.ok.0
          c.deref_mut.ensures.value c.copy_run-count.ensures.one within fits);
      room = record {
        bytes_long = room.bytes_long;
        component_ends_long = room.component_ends_long;
        element_ends_long = room.element_ends_long;
        filled_within = omega (arith, room.filled_within);
        components_within = omega (arith, room.components_within);
        elements_within = omega (arith, room.elements_within);
        is_short = omega (arith, size, within, c.requires.fits);
      };
    }

pub returns-clause-taken : goal.returns-clause-taken
returns-clause-taken c =
    let s = c.self.inside in
    let room = c.self.invariant.room in
    let bytes = c.args.bytes.now in
    let count = c.copy_run-count.result in
    let within = c.copy_run-count.ensures.within in
    let size : s.size ≡ c.args.self.now.length = ap (λ (o : Open). o.length) c.self.view_is in
    let fits : s.filled + count ≤ s.bytes.len = omega (arith, c.requires.fits, within, size, room.bytes_long, room.filled_within) in
    let long : length (take count bytes) ≡ count = length-take-le count bytes within in
    open-longer (take s.filled s.bytes.items) (take count bytes) _ _ _ _ _ _ c.self.invariant.flat s.tag _ s.size _
    (part_more s.bytes.items c.deref_mut.result.now c.copy_run-count.new.one bytes _ s.bytes.len s.filled _ count s.bytes.ok.0
    c.deref_mut.ensures.value c.copy_run-count.ensures.one within fits) (omega (arith, long))
    ∙ ap (λ (o : Open). with_bytes o (take count bytes)) c.self.view_is
