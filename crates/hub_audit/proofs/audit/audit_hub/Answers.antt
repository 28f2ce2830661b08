use Rattle.std.proofs.Common.{◌≡◌, subst, sym}
use Rattle.sqlite.specs.Held.{state}
use Rattle.sqlite.specs.State.{HasCleanDisk}
use Rattle.hub_schema.specs.Rows.{tables_in}
use Rattle.hub_schema.proofs.Single.{hub_rises}
use Rattle.hub_audit.proofs.audit.audit_hub.Goals as goal

pub returns : goal.returns
returns g c clean =
    let it = c.in_ok-audit.ensures in
    let now = subst (λ held. HasCleanDisk (state g.S.Store held)) c.rows.view_is clean in
    let was = it.was_honest now in (
      was,
      it.answers now (hub_rises (state g.S.Store c.args.conn) (c.requires.hub was)),
      subst (λ held. tables_in (state g.S.Store held).now.trees ≡ tables_in (state g.S.Store c.args.conn).now.trees)
          (sym c.rows.view_is) (it.stays now),
    )
