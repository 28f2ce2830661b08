use Rattle.std.proofs.Common.{◌≡◌, ◌∙◌, ap, refl, Bor, Option, Some, None}
use Rattle.std.specs.Prelude.{is_some, option_copied}
use Rattle.hub_register.proofs.Leaving.{found_is_any}
use Rattle.hub_register.proofs.register.Register.has_supplier.Goals as goal

copied : {X : Type 0} (o : Option (Bor X)) → is_some o ≡ is_some (option_copied o)
copied None = refl
copied (Some x) = refl

pub returns : goal.returns
returns c =
    c.is_some.ensures ∙ copied c.supplier.result ∙ ap is_some c.supplier.ensures.value
    ∙ found_is_any c.args.gln.now c.args.self.now.suppliers
