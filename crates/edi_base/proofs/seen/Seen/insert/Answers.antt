use Rattle.std.proofs.Common.{not, ap, ◌∙◌, ◌||◌, map}
use Rattle.std.specs.Str.{bytes_eq}
use Rattle.edi_base.specs.Seen.{is_among}
use Rattle.edi_base.proofs.Twice.{is_among-insert, contains-text, text_of}
use Rattle.edi_base.proofs.seen.Seen.insert.Goals as goal

pub returns-clause-new : goal.returns-clause-new
returns-clause-new c =
    c.in_ok-new.ensures.added ∙ ap not (contains-text c.args.text c.self.inside.texts.keys ∙ ap (is_among c.args.text.now) c.self.view_is)

pub returns-clause-seen : goal.returns-clause-seen
returns-clause-seen c = λ other.
    ap (λ keys. is_among other (map text_of keys)) c.in_ok-new.ensures.keys ∙ is_among-insert other c.self.inside.texts.keys c.args.text
    ∙ ap (λ texts. bytes_eq other c.args.text.now || is_among other texts) c.self.view_is
