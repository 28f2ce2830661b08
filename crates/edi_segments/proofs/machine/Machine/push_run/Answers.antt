use Rattle.std.proofs.Common.{[]}
use Rattle.edi_segments.specs.Machine.{reading_of}
use Rattle.edi_segments.proofs.Pieces.{some_more}
use Rattle.edi_segments.proofs.machine.Machine.push_run.Goals as goal

pub returns-clause-taken : goal.returns-clause-taken
returns-clause-taken c =
    some_more (reading_of [] c.args.self.now) (reading_of [] c.push_whole_tag-tag.new.self) (reading_of [] c.push_plain-plain.new.self)
    c.args.bytes.now c.push_whole_tag-tag.result c.push_plain-plain.result
    c.push_whole_tag-tag.ensures.taken c.push_plain-plain.ensures.taken
