use Rattle.std.proofs.Common.{◌||◌, not, ap, ◌∙◌}
use Rattle.std.specs.Str.{bytes_eq}
use Rattle.edi_base.specs.Seen.{is_among}
use Rattle.edi_envelope.proofs.ReferenceLemmas.{reference-insert, contains-reference}
use Rattle.edi_envelope.proofs.reference.References.insert.Goals as goal

pub returns-clause-new : goal.returns-clause-new
returns-clause-new c =
    c.in_ok-new.ensures.added
    ∙ ap not (contains-reference c.args.reference c.self.inside.set.keys ∙ ap (is_among c.args.reference) c.self.view_is)

pub returns-clause-seen : goal.returns-clause-seen
returns-clause-seen c = λ other.
    ap (is_among other) c.in_ok-new.ensures.keys ∙ reference-insert other c.self.inside.set.keys c.args.reference
    ∙ ap (λ keys. bytes_eq other c.args.reference || is_among other keys) c.self.view_is
