use Rattle.std.proofs.Common.{◌≡◌, ◌++◌, true, false, drop, map}
use Rattle.std.specs.List.{list_all}
use Rattle.hub_rows.proofs.shown.all_shown.Given as goal

abbrev pub invariant-rows : goal.invariant-rows
invariant-rows g l =
    let shown = g.T.ShownRow.shown in
    record {
      told : map shown l.rows ≡ l.items ++ map shown (drop l.row-index l.rows);
      clean : list_all g.T.ShownRow.clean l.items ≡ true;
      spoiled : list_all g.T.ShownRow.clean (map shown (drop l.row-index l.rows)) ≡ false
          → list_all g.T.ShownRow.clean (map shown l.rows) ≡ false;
    }
