use Rattle.std.proofs.Common.{◌≡◌, List, [], Result, Ok, sym, ap, ◌∙◌}
use Rattle.edi_segments.specs.declared.segment.Service.{Service}
use Rattle.edi_segments.specs.declared.segment.Tokens.{Tokens}
use Rattle.edi_segments.specs.declared.fault.TokenFault.{TokenFault}
use Rattle.edi_segments.specs.declared.segment.Segment.{Segment}
use Rattle.edi_segments.specs.declared.machine.Machine.{Machine}
use Rattle.std.proofs.lemmas.Result.{err_from_is_err_and}
use Rattle.edi_segments.specs.Reading.{start}
use Rattle.edi_segments.specs.Machine.{reading_of, tokens_at}
use Rattle.edi_segments.proofs.Runs.{tokens_of-fails, tokens_of-long, tokens_of-short}
use Rattle.edi_tokens.proofs.Segments.{fails_is}
use Rattle.edi_tokens.proofs.reading.read.Goals as goal

begins : (items : List Segment) (m : Machine) → items ≡ [] → reading_of [] m ≡ start → reading_of items m ≡ start
begins items m none is = ap (λ (l : List Segment). reading_of l m) none ∙ is

abbrev told : Machine → List Segment → Result Tokens TokenFault
told m segments = Ok (tokens_at segments m)

pub returns-in_err-push_segments : goal.returns-in_err-push_segments
returns-in_err-push_segments c =
    let p = err_from_is_err_and c.from_residual-in_err-push_segments.result c.from_residual-in_err-push_segments.ensures.1 in
    rw (p.1, p.2) (tokens_of-fails c.in_err-push_segments.field-0.0 c.args.text.now c.min.result
    (reading_of c.new-segments.result.items c.in_ok-machine.machine)
    (begins c.new-segments.result.items c.in_ok-machine.machine c.new-segments.ensures.items c.in_ok-machine.ensures)
    c.min.ensures c.in_err-push_segments.ensures)

pub returns-then-text-gt-TEXT_LIMIT : goal.returns-then-text-gt-TEXT_LIMIT
returns-then-text-gt-TEXT_LIMIT c =
    tokens_of-long c.args.text.now c.min.result (reading_of c.new-segments.result.items c.in_ok-machine.machine)
    (reading_of c.push_segments.new.segments.items c.push_segments.new.machine)
    (begins c.new-segments.result.items c.in_ok-machine.machine c.new-segments.ensures.items c.in_ok-machine.ensures)
    c.min.ensures c.in_ok-push_segments.ensures c.if-text-gt-TEXT_LIMIT.true

pub returns-in_err-finish : goal.returns-in_err-finish
returns-in_err-finish c =
    let p = err_from_is_err_and c.from_residual-in_err-finish.result c.from_residual-in_err-finish.ensures.1 in
    rw (p.1, p.2) (fails_is c.in_err-finish.field-0.0 _
    (tokens_of-short c.args.text.now c.min.result (reading_of c.new-segments.result.items c.in_ok-machine.machine)
    (reading_of c.push_segments.new.segments.items c.push_segments.new.machine)
    (begins c.new-segments.result.items c.in_ok-machine.machine c.new-segments.ensures.items c.in_ok-machine.ensures)
    c.min.ensures c.in_ok-push_segments.ensures c.if-text-gt-TEXT_LIMIT.false
    ∙ c.in_err-finish.ensures c.push_segments.new.segments.items))

pub returns : goal.returns
returns c =
    tokens_of-short c.args.text.now c.min.result (reading_of c.new-segments.result.items c.in_ok-machine.machine)
    (reading_of c.push_segments.new.segments.items c.push_segments.new.machine)
    (begins c.new-segments.result.items c.in_ok-machine.machine c.new-segments.ensures.items c.in_ok-machine.ensures)
    c.min.ensures c.in_ok-push_segments.ensures c.if-text-gt-TEXT_LIMIT.false
    ∙ c.in_ok-finish.ensures c.push_segments.new.segments.items
    ∙ ap (told c.push_segments.new.machine) (sym c.from_vec.ensures)
    ∙ ap (λ (service : Service). Ok (record { service = service; segments = c.from_vec.result })) (sym c.get.ensures)
