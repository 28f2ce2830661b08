use Rattle.std.proofs.Common.{◌≡◌, ◌-◌, ◌++◌, length, take, ap, sym, ◌∙◌, arith}
use Rattle.std.proofs.lemmas.List.{length-take-le}
use Rattle.hub_journal.proofs.Kept.{keep_front}
use Rattle.hub_journal.proofs.front.Front.keep.Goals as goal

pub returns : goal.returns
returns c =
    let old = c.args.self.now in
    let bytes = c.args.bytes.now in
    let filled = c.self.inside.filled in
    let size : length old ≡ filled =
    ap length (sym c.self.view_is) ∙ length-take-le filled c.self.inside.bytes (omega (arith, c.self.invariant, c.self.told)) in
    let front = keep_front old bytes (2400 - filled) (omega (arith, size, c.self.invariant)) in
    c.append.ensures ∙ ap (λ k. old ++ take k bytes) c.min-count.ensures ∙ sym front
