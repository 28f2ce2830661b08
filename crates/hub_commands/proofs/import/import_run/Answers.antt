use Rattle.hub_commands.specs.Files.{HasFailed}
use Rattle.std.proofs.Common.{ℕ, List, [], ◌∷◌, ◌++◌, None, refl, ◌∙◌, inl, inr}
use Rattle.hub_core.specs.Hub.{RunsFrom}
use Rattle.hub_core.specs.Steps.{input_of}
use Rattle.hub_requests.specs.declared.request.Request.TheVariants.{Upload}
use Rattle.hub_commands.specs.Import.{NoMemory}
use Rattle.hub_commands.proofs.OneFile.{lost_at_once}
use Rattle.hub_commands.proofs.Output.{written_or_lost}
use Rattle.hub_commands.proofs.Running.{runs_more}
use Rattle.hub_commands.proofs.SoFar.{gives_none, gives_file, gives_fault, gives_again, taken_more, taken_no_memory, taken_known}
use Rattle.hub_commands.proofs.SoFar.{so_far_none, so_far_more, still_known, whole, early}
use Rattle.hub_commands.proofs.import.import_run.Goals as goal

pub loop-file-init : goal.loop-file-init
loop-file-init g c =
    let hub = c.args.hub.now in
    let asked = λ (bytes : List ℕ). input_of c.args.moment c.args.caller.now c.args.key.now (Upload bytes) in record {
      register = refl;
      was_honest = λ honest. honest;
      held = λ honest sound. sound;
      so_far =
          so_far_none g.F.Bytes.Source.remaining (HasFailed g.F.Bytes.Source.origin g.F.Bytes.Source.failed)
          asked (g.F.Files.remaining c.args.files.now) (g.W.Sink.contents c.args.out.now)
          (g.W.Sink.failed c.args.out.now) (RunsFrom g.S.Store hub hub)
          (λ honest sound. c.steps_are_a_run.ensures.none hub.1 sound.sound);
    }

pub returns-in-Ok-None-clause-imported : goal.returns-in-Ok-None-clause-imported
returns-in-Ok-None-clause-imported g c =
    let asked = λ (bytes : List ℕ). input_of c.args.moment c.args.caller.now c.args.key.now (Upload bytes) in
    whole g.F.Bytes.Source.remaining (HasFailed g.F.Bytes.Source.origin g.F.Bytes.Source.failed)
    asked (g.F.Files.remaining c.args.files.now) (g.W.Sink.contents c.args.out.now) (g.W.Sink.failed c.args.out.now)
    (RunsFrom g.S.Store c.args.hub.now c.loop-file.hub)
    (g.F.Files.remaining c.loop-file.files) (g.F.Files.remaining c.next.new.self) (g.W.Sink.contents c.loop-file.out)
    (g.W.Sink.failed c.loop-file.out) c.loop-file.greatest c.loop-file.invariant.so_far
    (gives_none g.F.Bytes.Source.remaining (HasFailed g.F.Bytes.Source.origin g.F.Bytes.Source.failed)
    (g.F.Files.remaining c.loop-file.files) (g.F.Files.remaining c.next.new.self) c.next.result c.in-Ok-None.field-0
    c.next.ensures.gives c.in-Ok-None.is c.in-Ok-None.field-0-is)

pub returns-in-Err-clause-imported : goal.returns-in-Err-clause-imported
returns-in-Err-clause-imported g c =
    let hub = c.args.hub.now in
    let between = c.loop-file.hub in
    let known = g.F.Files.remaining c.args.files.now in
    let rest = g.F.Files.remaining c.loop-file.files in
    let left = g.F.Files.remaining c.next.new.self in
    let s = c.loop-file.invariant.so_far in
    let asked = λ (bytes : List ℕ). input_of c.args.moment c.args.caller.now c.args.key.now (Upload bytes) in
    let ran = runs_more g.S.Store asked
    c.steps_are_a_run.ensures.more hub between between s.looked (NoMemory None)
    (λ honest. honest) c.loop-file.invariant.held s.ran refl in
    let taken = taken_no_memory g.F.Bytes.Source.remaining
    (HasFailed g.F.Bytes.Source.origin g.F.Bytes.Source.failed) known rest left s.looked s.files
    (gives_fault g.F.Bytes.Source.remaining (HasFailed g.F.Bytes.Source.origin g.F.Bytes.Source.failed)
    rest left c.next.result c.in-Err.field-0 c.next.ensures.gives c.in-Err.is)
    (gives_again g.F.Bytes.Source.remaining (HasFailed g.F.Bytes.Source.origin g.F.Bytes.Source.failed)
    rest left c.next.result c.in-Err.field-0 c.next.ensures.gives c.in-Err.is) in
    early g.F.Bytes.Source.remaining (HasFailed g.F.Bytes.Source.origin g.F.Bytes.Source.failed)
    asked known (g.W.Sink.contents c.args.out.now) (g.W.Sink.failed c.args.out.now)
    (RunsFrom g.S.Store hub between)
    (RunsFrom g.S.Store hub between) rest rest
    (g.W.Sink.contents c.loop-file.out) (g.W.Sink.contents c.print.new.out) (g.W.Sink.failed c.loop-file.out)
    (g.W.Sink.failed c.print.new.out) c.loop-file.greatest s (NoMemory None) ran left taken.0 taken.1 taken.2
    (elim (written_or_lost c.print.result c.print.ensures.ok c.print.ensures.err) [
      | inl written ↦ inl (tt, written)
      | inr lost ↦ inr (lost_at_once lost)
    ])

pub loop-file-preserved : goal.loop-file-preserved
loop-file-preserved g c =
    let hub = c.args.hub.now in
    let between = c.loop-file.hub in
    let new = c.import_file.new.hub in
    let known = g.F.Files.remaining c.args.files.now in
    let rest = g.F.Files.remaining c.loop-file.files in
    let later = g.F.Files.remaining c.next.new.self in
    let s = c.loop-file.invariant.so_far in
    let looks = c.in-Ok.ensures.looks_at in
    let asked = λ (bytes : List ℕ). input_of c.args.moment c.args.caller.now c.args.key.now (Upload bytes) in
    let ran = runs_more g.S.Store asked
    c.steps_are_a_run.ensures.more hub between new s.looked looks.one
    c.import_file.ensures.was_honest c.loop-file.invariant.held s.ran looks.did in
    record {
      register = c.import_file.ensures.register ∙ c.loop-file.invariant.register;
      was_honest = λ honest. c.loop-file.invariant.was_honest (c.import_file.ensures.was_honest honest);
      held = λ honest sound.
          c.import_file.ensures.held honest (c.loop-file.invariant.held (c.import_file.ensures.was_honest honest) sound);
      so_far =
          so_far_more g.F.Bytes.Source.remaining (HasFailed g.F.Bytes.Source.origin g.F.Bytes.Source.failed)
          asked known (g.W.Sink.contents c.args.out.now) (g.W.Sink.failed c.args.out.now)
          (RunsFrom g.S.Store hub between)
          (RunsFrom g.S.Store hub new) rest later
          (g.W.Sink.contents c.loop-file.out) (g.W.Sink.contents c.import_file.new.out) (g.W.Sink.failed c.loop-file.out)
          (g.W.Sink.failed c.import_file.new.out) c.loop-file.greatest s looks.one ran
          (taken_more g.F.Bytes.Source.remaining (HasFailed g.F.Bytes.Source.origin g.F.Bytes.Source.failed)
          known rest later s.looked c.in-Ok-Some.file looks.one s.files
          (gives_file g.F.Bytes.Source.remaining (HasFailed g.F.Bytes.Source.origin g.F.Bytes.Source.failed)
          rest later c.next.result c.in-Ok-Some.field-0 c.in-Ok-Some.file c.next.ensures.gives c.in-Ok-Some.is
          c.in-Ok-Some.field-0-is) looks.is) looks.comes.0 looks.comes.1 c.max-greatest.result c.in-Ok.status
          c.max-greatest.ensures looks.comes.2;
    }

pub returns-in-Err-import_file-clause-imported : goal.returns-in-Err-import_file-clause-imported
returns-in-Err-import_file-clause-imported g c =
    let hub = c.args.hub.now in
    let between = c.loop-file.hub in
    let new = c.import_file.new.hub in
    let known = g.F.Files.remaining c.args.files.now in
    let rest = g.F.Files.remaining c.loop-file.files in
    let later = g.F.Files.remaining c.next.new.self in
    let s = c.loop-file.invariant.so_far in
    let looks = c.in-Err-import_file.ensures.looks_at in
    let asked = λ (bytes : List ℕ). input_of c.args.moment c.args.caller.now c.args.key.now (Upload bytes) in
    let ran = runs_more g.S.Store asked
    c.steps_are_a_run.ensures.more hub between new s.looked looks.one
    c.import_file.ensures.was_honest c.loop-file.invariant.held s.ran looks.did in
    let taken = taken_more g.F.Bytes.Source.remaining (HasFailed g.F.Bytes.Source.origin g.F.Bytes.Source.failed)
    known rest later s.looked c.in-Ok-Some.file looks.one s.files
    (gives_file g.F.Bytes.Source.remaining (HasFailed g.F.Bytes.Source.origin g.F.Bytes.Source.failed)
    rest later c.next.result c.in-Ok-Some.field-0 c.in-Ok-Some.file c.next.ensures.gives c.in-Ok-Some.is
    c.in-Ok-Some.field-0-is) looks.is in
    early g.F.Bytes.Source.remaining (HasFailed g.F.Bytes.Source.origin g.F.Bytes.Source.failed)
    asked known (g.W.Sink.contents c.args.out.now) (g.W.Sink.failed c.args.out.now)
    (RunsFrom g.S.Store hub between)
    (RunsFrom g.S.Store hub new) rest later
    (g.W.Sink.contents c.loop-file.out) (g.W.Sink.contents c.import_file.new.out) (g.W.Sink.failed c.loop-file.out)
    (g.W.Sink.failed c.import_file.new.out) c.loop-file.greatest s looks.one ran later
    taken.others
    (taken_known g.F.Bytes.Source.remaining
    (HasFailed g.F.Bytes.Source.origin g.F.Bytes.Source.failed) known later (s.looked ++ looks.one ∷ []) taken)
    (still_known g.F.Bytes.Source.remaining (HasFailed g.F.Bytes.Source.origin g.F.Bytes.Source.failed)
    known later s.looked looks.one taken looks.given) looks.comes
