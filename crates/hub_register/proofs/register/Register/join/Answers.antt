use Rattle.std.proofs.Common.{◌≡◌, ◌∙◌, ap, sym, subst, map}
use Rattle.std.specs.BTreeMap.{values}
use Rattle.hub_parties.specs.Rows.{RegisterRows, IsRegister, rows_by}
use Rattle.hub_register.specs.Joined.{joined_by}
use Rattle.hub_register.proofs.Inserted.{AtGln, put-insert, at-insert}
use Rattle.hub_register.proofs.register.Register.join.Goals as goal

-- the stored rows are then those from before, with the new one at its place
joined : (c : goal.Joined-branch-2)
    → rows_by c.self.inside.hub c.self.inside.retailer c.self.inside.retailer_key (values c.insert.new.self)
    ≡ joined_by c.args.row c.args.self.now
joined c =
    ap (rows_by c.self.inside.hub c.self.inside.retailer c.self.inside.retailer_key)
    (ap (map (λ e. e.1)) c.in_ok-insert.ensures.entries
    ∙ put-insert c.self.inside.suppliers.entries c.args.row c.self.invariant.at_gln)
    ∙ ap (λ (r : RegisterRows). joined_by c.args.row r) c.self.view_is

pub invariant_of-self-2 : goal.invariant_of-self-2
invariant_of-self-2 c = record {
  at_gln = subst AtGln (sym c.in_ok-insert.ensures.entries) (at-insert c.self.inside.suppliers.entries c.args.row c.self.invariant.at_gln);
  right = subst IsRegister (sym (joined c)) c.requires;
}

pub returns-clause-ok : goal.returns-clause-ok
returns-clause-ok c = joined c
