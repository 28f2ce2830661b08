use Rattle.std.proofs.Common.{inl, List, [], ◌∷◌, Option, refl, sym, subst}
use Rattle.hub_serve.specs.Connections.{Adds, Closed, Coming, TakesFirst, closed}
use Rattle.hub_serve.proofs.Endings.{failed_so, gone, taken}
use Rattle.hub_serve.proofs.Passing.{takes_none, went_up}
use Rattle.hub_serve.proofs.serve.serve_next.Goals as goal

pub returns-in-Err-Over-clause-stopped : goal.returns-in-Err-Over-clause-stopped
returns-in-Err-Over-clause-stopped g c = inl (
  went_up (g.L.Connections.failed c.args.connections.now) (g.L.Connections.failed c.next.new.self)
      (rw c.in-Err-Over.field-0-is at c.in-Err-Over.ensures.flag),
  takes_none (g.L.Connections.coming c.args.connections.now) (g.L.Connections.coming c.next.new.self)
      (rw c.in-Err-Over.field-0-is at c.in-Err-Over.ensures.takes),
)

pub returns-in-Err-Gone-clause-served : goal.returns-in-Err-Gone-clause-served
returns-in-Err-Gone-clause-served g c =
    gone (rw c.in-Err-Gone.field-0-is at c.in-Err-Gone.ensures.takes) c.in-Err-Gone.ensures.closed refl refl

pub returns-clause-served : goal.returns-clause-served
returns-clause-served g c =
    let sides = c.in-Ok.sides in
    let bytes = g.L.Reader.Source.remaining sides.reader in
    let at_its_end =
    closed (g.L.Reader.Source.remaining c.serve_one.new.reader) (g.L.Writer.Sink.contents c.serve_one.new.writer)
    (g.L.Reader.Source.failed c.serve_one.new.reader) (g.L.Writer.Sink.failed c.serve_one.new.writer) c.ending_of-ending.result in
    rw c.ending_of-ending.ensures
    (taken c.in-Some.moment bytes at_its_end c.serve_one.result
    (subst (λ (rest : Coming). TakesFirst (g.L.Connections.coming c.args.connections.now) rest (bytes ∷ []))
    (sym c.end.ensures.coming) c.in-Ok.ensures.takes)
    c.in-Some.ensures.takes
    (subst (λ (earlier : Option (List Closed)). Adds earlier (g.L.Connections.closed c.end.new.self) (at_its_end ∷ []))
    c.in-Ok.ensures.closed c.end.ensures.closed)
    c.in-Ok.ensures.is_new
    (failed_so c.serve_one.result at_its_end (g.L.Reader.Source.failed sides.reader)
    (g.L.Writer.Sink.failed sides.writer) c.in-Ok.ensures.is_new.read c.in-Ok.ensures.is_new.write
    c.serve_one.ensures.read c.serve_one.ensures.read_kept c.serve_one.ensures.write c.serve_one.ensures.write_kept)
    c.ending_of-ending.ensures c.serve_one.ensures.served c.serve_one.ensures.to_end c.serve_one.ensures.stepped)
