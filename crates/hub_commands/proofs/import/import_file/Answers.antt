use Rattle.hub_commands.specs.Files.{HasFailed}
use Rattle.std.proofs.Common.{◌≡◌, ℕ, List, refl, ap, inr, string_bytes}
use Rattle.hub_core.specs.Steps.{input_of}
use Rattle.hub_requests.specs.declared.request.Request.TheVariants.{Upload}
use Rattle.hub_commands.specs.Import.{Answered, Unprinted, file_line}
use Rattle.hub_commands.proofs.OneFile.{is_called, bytes_of, of_read, did_upload, of_fault, fault_given, of_unread, nothing_done}
use Rattle.hub_commands.proofs.OneFile.{ended, answered, unread, lost_at_once}
use Rattle.hub_commands.proofs.Output.{written_as, lost_as}
use Rattle.hub_commands.proofs.Running.{StepsTo}
use Rattle.hub_commands.proofs.import.import_file.Goals as goal

pub returns-in_err-print_file_line-clause-looks_at : goal.returns-in_err-print_file_line-clause-looks_at
returns-in_err-print_file_line-clause-looks_at g c =
    let name = string_bytes c.in-Named.file.name in record {
      one = Unprinted name;
      is = is_called c.args.file c.in-Named.file c.in-Named.is;
      given = tt;
      did = refl;
      comes =
          ended (Unprinted name) c.from_residual-in_err-print_file_line.result c.from_residual-in_err-print_file_line.ensures.0
          (inr (lost_at_once (lost_as (ap file_line c.as_str.ensures.value) c.in_err-print_file_line.ensures.err)));
    }

pub returns-in-Ok-clause-looks_at : goal.returns-in-Ok-clause-looks_at
returns-in-Ok-clause-looks_at g c =
    let name = string_bytes c.in-Named.file.name in
    let source = c.in-Named.file.source in
    let asked = λ (bytes : List ℕ). input_of c.args.moment c.args.caller.now c.args.key.now (Upload bytes) in
    let hub = c.args.hub.now in
    let new = c.step_opened-reply.new.self in record {
      one = Answered name (bytes_of g.B.Source.remaining (HasFailed g.B.Source.origin g.B.Source.failed)
          source c.in-Ok.upload c.in-Ok.ensures.opens) c.step_opened-reply.result;
      is = of_read g.B.Source.remaining (HasFailed g.B.Source.origin g.B.Source.failed)
          c.args.file c.in-Named.file c.in-Ok.upload c.step_opened-reply.result c.in-Named.is c.in-Ok.ensures.opens;
      given = tt;
      did =
          did_upload g.B.Source.remaining (HasFailed g.B.Source.origin g.B.Source.failed)
          (StepsTo g.S.Store asked hub new) (new ≡ hub) name
          c.step_opened-reply.result source c.in-Ok.upload c.step_opened-reply.ensures.stepped c.in-Ok.ensures.opens;
      comes =
          answered (g.W.Sink.contents c.print_reply.new.out) (g.W.Sink.failed c.print_reply.new.out) name
          (bytes_of g.B.Source.remaining (HasFailed g.B.Source.origin g.B.Source.failed) source c.in-Ok.upload c.in-Ok.ensures.opens)
          c.step_opened-reply.result c.print_reply.result
          (written_as (ap file_line c.as_str.ensures.value) c.in_ok-print_file_line.ensures.ok) c.print_reply.ensures;
    }

pub returns-in-Ok-clause-held : goal.returns-in-Ok-clause-held
returns-in-Ok-clause-held g c = c.step_opened-reply.ensures.held

pub returns-clause-looks_at : goal.returns-clause-looks_at
returns-clause-looks_at g c =
    let name = string_bytes c.in-Named.file.name in
    let asked = λ (bytes : List ℕ). input_of c.args.moment c.args.caller.now c.args.key.now (Upload bytes) in
    let hub = c.args.hub.now in record {
      one = of_fault name c.in-Err.fault;
      is = of_unread g.B.Source.remaining (HasFailed g.B.Source.origin g.B.Source.failed)
          c.args.file c.in-Named.file c.in-Err.fault c.in-Named.is c.in-Err.ensures.fault;
      given = fault_given name c.in-Err.fault;
      did =
          nothing_done g.B.Source.remaining (HasFailed g.B.Source.origin g.B.Source.failed)
          (StepsTo g.S.Store asked hub hub) name c.in-Err.fault refl;
      comes =
          unread (g.W.Sink.contents c.print_fault.new.out) (g.W.Sink.failed c.print_fault.new.out) name c.in-Err.fault
          c.print_fault.result (written_as (ap file_line c.as_str.ensures.value) c.in_ok-print_file_line.ensures.ok)
          c.print_fault.ensures;
    }
