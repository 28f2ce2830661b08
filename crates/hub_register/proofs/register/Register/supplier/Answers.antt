use Rattle.std.proofs.Common.{◌∙◌, ap}
use Rattle.hub_parties.specs.Rows.{row_of}
use Rattle.hub_register.proofs.Inserted.{lookup-find}
use Rattle.hub_register.proofs.register.Register.supplier.Goals as goal

pub returns-clause-value : goal.returns-clause-value
returns-clause-value c =
    c.get.ensures.value
    ∙ lookup-find c.args.gln.now c.self.inside.suppliers.entries c.self.invariant.at_gln
    ∙ ap (λ rows. row_of rows c.args.gln.now) c.self.view_is
