use Rattle.std.proofs.Common.{not, nat_eq, sym, ap, ◌∙◌, ◌||◌}
use Rattle.std.proofs.lemmas.List.{map-id}
use Rattle.edi_base.specs.Seen.{comes_among}
use Rattle.edi_base.proofs.Twice.{number-insert, contains-number}
use Rattle.edi_places.proofs.numbers.Numbers.insert.Goals as goal

pub returns-clause-new : goal.returns-clause-new
returns-clause-new c =
    let number = c.args.number in
    c.in_ok-new.ensures.added
    ∙ ap not (contains-number number c.self.inside.set.keys
    ∙ ap (comes_among nat_eq number) (map-id c.self.inside.set.keys ∙ c.self.view_is))

pub returns-clause-seen : goal.returns-clause-seen
returns-clause-seen c = λ other.
    ap (comes_among nat_eq other) (c.in_ok-new.ensures.keys ∙ sym (map-id _)) ∙ number-insert other c.self.inside.set.keys c.args.number
    ∙ ap (λ numbers. nat_eq other c.args.number || comes_among nat_eq other numbers) (map-id c.self.inside.set.keys ∙ c.self.view_is)
