-- Shows what making the register's tables leaves beside those of schema 1.
use Rattle.std.proofs.Common.{◌≡◌, ℕ, pos, if◌then◌else◌, IsTrue, List, [], ◌∷◌, map, drop, Result, Ok, Err, OnOk, refl}
use Rattle.std.proofs.Common.{sym, ap, subst, ◌∙◌, arith}
use Rattle.sqlite.specs.State.{State, ExecutesInside, Shows}
use Rattle.sqlite.specs.declared.error.Error.{Error}
use Rattle.sqlite.specs.declared.types.Value.TheVariants.{Int}
use Rattle.sqlite.proofs.Callers.{runs_as}
use Rattle.sqlite_rules.specs.Cast.{cast_row}
use Rattle.sqlite_trees.specs.Tree.{Trees, no_trees}
use Rattle.sqlite_trees.specs.View.{IsShaped}
use Rattle.sqlite_trees.specs.declared.store.Shape.TheVariants.{Table as Rows}
use Rattle.sqlite_value.specs.Order.{Row, column}
use Rattle.sql_rows.proofs.Inserts.{cast_int}
use Rattle.sql_rows.proofs.Updates.{passes, show, sets}
use Rattle.hub_schema.specs.Making.{HasMade, HaveNoRows, schema_with, traffic_rows}
use Rattle.hub_schema.specs.Rows.{tables_in}
use Rattle.hub_schema.specs.Schema.{schema_table, traffic_tables, party_tables, hub_schema, hub_tables}
use Rattle.hub_schema.specs.State.{AreOldOrdered, AreOrdered, HasNumber, IsOldHub, Makes}
use Rattle.hub_schema.proofs.Texts.{set_number, set_number_is, set_number_plain, set_number_shows}

pub bare_at_all : HaveNoRows hub_tables no_trees
bare_at_all = (refl, (refl, (refl, (refl, (refl, (refl, (refl, (refl, (refl, (refl, (refl, (refl, tt))))))))))))

pub none_beside : (rows : Trees) → HaveNoRows party_tables (traffic_rows rows)
none_beside rows = (refl, (refl, (refl, tt)))

-- the tables of schema 1 count as made so far
pub old_made : (s : State) → IsOldHub s → IsTrue s.in_transaction
    → HasMade (traffic_rows s.now.trees) (schema_with traffic_tables) s
old_made s old begun = record {
  schema = old.schema;
  same = (refl, (refl, (refl, (refl, (refl, (refl, (refl, (refl, (refl, tt)))))))));
  mode = begun;
}

-- the register's tables, which have no rows, are in order beside the rows of schema 1
pub old_ordered : (rows : Trees) → AreOldOrdered rows → AreOrdered (traffic_rows rows)
old_ordered rows it = (
  it.0,
  (
    it.1.0,
    (
      it.1.1.0,
      (
        it.1.1.1.0,
        (
          it.1.1.1.1.0,
          (
            it.1.1.1.1.1.0,
            (
              it.1.1.1.1.1.1.0,
              (it.1.1.1.1.1.1.1.0, (it.1.1.1.1.1.1.1.1.0, ((tt, tt), ((tt, tt), ((tt, tt), tt))))),
            ),
          ),
        ),
      ),
    ),
  ),
)

abbrev becomes : Row → Row
becomes row = cast_row schema_table (drop 1 (show 0 (λ _. refl) [] set_number_shows [] row))

renumbered : (n : ℕ) (rows : List Row) → map (λ row. column row 1) rows ≡ Int (pos n) ∷ []
    → map (λ row. column row 1) (map (λ row. if passes 0 (λ _. refl) [] set_number_shows [] row then becomes row else row)
    rows) ≡ Int (pos 3) ∷ []
renumbered n [] one = absurd cc
renumbered n (row ∷ []) one = rw (cast_int (pos 3))
renumbered n (row ∷ next ∷ rows) one = absurd cc

-- the row with the schema's number is set, and all tables stay the same
pub number_set : (n : ℕ) (rows : Trees) (old new : State) (r : Result ℕ Error) → HasNumber n rows → AreOrdered rows
    → HasMade rows hub_schema old → ExecutesInside 0 set_number [] old new r
    → OnOk r (Makes (λ _. tables_in rows) old new)
number_set n rows old new (Err e) one ordered has h = tt
number_set n rows old new (Ok count) one ordered has h =
    let w = runs_as set_number [] old new hub_schema has.schema _ set_number_is set_number_plain count h.0 in
    let shaped = subst (IsShaped Rows) (sym has.same.0) ordered.0 in
    let did = sets hub_schema 0 0 _ _ _ _ _ refl (λ _ _. refl) (λ _. refl) [] set_number_shows [] (λ r. (
      refl,
      refl,
    )) old new _ count has.schema shaped w in
    let number = subst (λ (rs : List Row). map (λ row. column row 1) rs ≡ Int (pos n) ∷ []) (sym has.same.0) one in
    let rest = did.others.1 in
    let was = has.same.1 in
    let orders : new.now.trees 1 ≡ rows 1 = rest.0 (λ e. absurd (omega (arith, e))) ∙ was.0 in
    let lines : new.now.trees 3 ≡ rows 3 = rest.1.0 (λ e. absurd (omega (arith, e))) ∙ was.1.0 in
    let advices : new.now.trees 5 ≡ rows 5 = rest.1.1.0 (λ e. absurd (omega (arith, e))) ∙ was.1.1.0 in
    let pallets : new.now.trees 7 ≡ rows 7 = rest.1.1.1.0 (λ e. absurd (omega (arith, e))) ∙ was.1.1.1.0 in
    let contents : new.now.trees 10 ≡ rows 10 = rest.1.1.1.1.0 (λ e. absurd (omega (arith, e))) ∙ was.1.1.1.1.0 in
    let receipts : new.now.trees 12 ≡ rows 12 = rest.1.1.1.1.1.0 (λ e. absurd (omega (arith, e))) ∙ was.1.1.1.1.1.0 in
    let remembered : new.now.trees 14 ≡ rows 14 = rest.1.1.1.1.1.1.0 (λ e. absurd (omega (arith, e))) ∙ was.1.1.1.1.1.1.0 in
    let mail : new.now.trees 16 ≡ rows 16 = rest.1.1.1.1.1.1.1.0 (λ e. absurd (omega (arith, e))) ∙ was.1.1.1.1.1.1.1.0 in
    let hubs : new.now.trees 18 ≡ rows 18 = rest.1.1.1.1.1.1.1.1.0 (λ e. absurd (omega (arith, e))) ∙ was.1.1.1.1.1.1.1.1.0 in
    let keys : new.now.trees 20 ≡ rows 20 = rest.1.1.1.1.1.1.1.1.1.0 (λ e. absurd (omega (arith, e))) ∙ was.1.1.1.1.1.1.1.1.1.0 in
    let prefixes : new.now.trees 22 ≡ rows 22 = rest.1.1.1.1.1.1.1.1.1.1.0 (λ e. absurd (omega (arith, e))) ∙ was.1.1.1.1.1.1.1.1.1.1.0 in
    let then_o = ordered.1 in
    record {
      hub = record {
        schema = did.schema_is;
        numbered = ap (map (λ row. column row 1)) did.rows ∙ renumbered n (old.now.trees 0) number;
        ordered = (
          subst (IsShaped Rows) (sym did.rows) did.shaped,
          (
            subst (IsShaped Rows) (sym orders) then_o.0,
            (
              subst (IsShaped Rows) (sym lines) then_o.1.0,
              (
                subst (IsShaped Rows) (sym advices) then_o.1.1.0,
                (
                  subst (IsShaped Rows) (sym pallets) then_o.1.1.1.0,
                  (
                    subst (IsShaped Rows) (sym contents) then_o.1.1.1.1.0,
                    (
                      subst (IsShaped Rows) (sym receipts) then_o.1.1.1.1.1.0,
                      (
                        subst (IsShaped Rows) (sym remembered) then_o.1.1.1.1.1.1.0,
                        (
                          subst (IsShaped Rows) (sym mail) then_o.1.1.1.1.1.1.1.0,
                          (
                            subst (IsShaped Rows) (sym hubs) then_o.1.1.1.1.1.1.1.1.0,
                            (
                              subst (IsShaped Rows) (sym keys) then_o.1.1.1.1.1.1.1.1.1.0,
                              (subst (IsShaped Rows) (sym prefixes) then_o.1.1.1.1.1.1.1.1.1.1.0, tt),
                            ),
                          ),
                        ),
                      ),
                    ),
                  ),
                ),
              ),
            ),
          ),
        );
        sound = w.sound;
      };
      tables = rw (hubs, keys, prefixes, orders, lines, advices, pallets, contents, receipts, remembered, mail);
      committed = (subst (λ b. Shows old new new.now (if b then old.committed else new.now) b) has.mode
          w.shown).committed_is;
      mode = w.shown.mode ∙ has.mode;
    }
