use Rattle.std.proofs.Common.{◌≡◌, true, sym, subst, arith}
use Rattle.hub_store.specs.Clean.{are_bytes}
use Rattle.hub_rows.proofs.Unclean.{bytes_fit}
use Rattle.hub_rows.proofs.values.items_of.Goals as goal

pub returns-clause-right : goal.returns-clause-right
returns-clause-right c =
    subst (λ bytes. are_bytes bytes ≡ true) (sym c.from_vec.ensures) (bytes_fit c.args.bytes.items (λ k d within. omega arith))
