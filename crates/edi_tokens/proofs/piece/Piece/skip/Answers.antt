use Rattle.std.proofs.Common.{◌≤◌, ◌-◌, drop, length, ap, ◌∙◌, arith}
use Rattle.std.proofs.lemmas.List.{length-take}
use Rattle.edi_tokens.proofs.Pieced.{skipped}
use Rattle.edi_tokens.proofs.piece.Piece.skip.Goals as goal

pub returns : goal.returns
returns c =
    let p = c.self.inside in
    let le : c.args.count ≤ p.end - p.from =
    omega (arith, c.requires, ap length c.self.view_is, length-take (p.end - p.from) (drop p.from p.bytes.items)) in
    skipped p.bytes.items p.from p.end c.args.count le ∙ ap (drop c.args.count) c.self.view_is
