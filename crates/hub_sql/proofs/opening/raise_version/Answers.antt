use Rattle.std.proofs.Common.{IsTrue, rules, refl}
use Rattle.hub_sql.proofs.Adopted.{left_alone}
use Rattle.hub_sql.proofs.opening.raise_version.Goals as goal

pub returns-in-First : goal.returns-in-First
returns-in-First g c =
    let idle : IsTrue c.is_autocommit-idle.result = search rules in
    let left = left_alone g.S.Store c.args.conn (g.met.S.Store.settled c.args.conn.store) (c.is_autocommit-idle.ensures.settled idle) in
    rw c.from_tables.ensures
    (record {
      holds = record {
        whole = refl;
        rows_are = λ clean. refl;
        crash = λ clean t h. left (c.requires.open clean) t h;
        clean = λ clean. clean;
      };
      fails = tt;
      spared = tt;
    })
