use Rattle.std.proofs.Common.{◌≡◌, ◌∙◌, ap, sym, subst, map}
use Rattle.std.specs.BTreeMap.{values}
use Rattle.hub_parties.specs.Rows.{RegisterRows, IsRegister, rows_by}
use Rattle.hub_register.specs.Joined.{left_by}
use Rattle.hub_register.proofs.Inserted.{AtGln}
use Rattle.hub_register.proofs.Leaving.{without-remove, at-remove}
use Rattle.hub_register.proofs.register.Register.leave.Goals as goal

-- the stored rows are then those from before, without that of the GLN
left : (c : goal.Joined-remove)
    → rows_by c.self.inside.hub c.self.inside.retailer c.self.inside.retailer_key (values c.remove.new.self)
    ≡ left_by c.args.gln.now c.args.self.now
left c =
    ap (rows_by c.self.inside.hub c.self.inside.retailer c.self.inside.retailer_key)
    (ap (map (λ e. e.1)) c.remove.ensures.entries
    ∙ without-remove c.args.gln.now c.self.inside.suppliers.entries c.self.invariant.at_gln)
    ∙ ap (λ (r : RegisterRows). left_by c.args.gln.now r) c.self.view_is

pub invariant_of-self : goal.invariant_of-self
invariant_of-self c = record {
  at_gln = subst AtGln (sym c.remove.ensures.entries) (at-remove c.args.gln.now c.self.inside.suppliers.entries c.self.invariant.at_gln);
  right = subst IsRegister (sym (left c)) c.requires;
}

pub returns : goal.returns
returns c = left c
