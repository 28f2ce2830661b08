-- Proves what a commit of a store does, from what it does on the connection.
use Rattle.std.proofs.Common.{◌≡◌, ℕ, ◌≤◌, inl, inr, true, false, IsTrue, List, [], ◌∷◌, ◌++◌, Option, None, Some, Result}
use Rattle.std.proofs.Common.{Ok, Err, refl, sym, ap, subst, ◌∙◌, arith}
use Rattle.std.specs.BTreeMap.{btree_map_len}
use Rattle.std.specs.List.{last_or}
use Rattle.sqlite.specs.Held.{state}
use Rattle.sqlite_trees.specs.declared.store.Store.{Ghosts}
use Rattle.sql_rows.proofs.Transactions.{clean_before}
use Rattle.hub_parties.specs.Rows.{RegisterRows}
use Rattle.hub_tables.specs.Change.{apply_all}
use Rattle.hub_tables.specs.Sets.{Fit}
use Rattle.hub_tables.specs.Tables.{Tables}
use Rattle.hub_tables.specs.declared.change.Change.{Change}
use Rattle.hub_store.specs.Calls.{Commits, Fails}
use Rattle.hub_store.specs.declared.fault.StoreFault.{StoreFault}
use Rattle.hub_schema.specs.Rows.{tables_in}
use Rattle.hub_schema.specs.State.{MayRefuse, Holds, CommitsTo}
use Rattle.hub_sql.specs.Settling.{Settles}
use Rattle.hub_sql.specs.Stored.{Stored, rows_in, content, left, IsSoundStore, honest}
use Rattle.hub_sql.specs.Marks.{Marks, TakenUpToMarks, mark_of, mark_after_all}
use Rattle.hub_sql.proofs.Looking.{failed, still, same_content}
use Rattle.hub_sql.proofs.Marking.{lowered}

last_added : {X : Type 0} (xs : List X) (x : X) (d : Option X) → last_or d (xs ++ x ∷ []) ≡ Some x
last_added [] x d = refl
last_added (y ∷ ys) x d = last_added ys x (Some y)

content_after : {S : Type 0} (g : Ghosts S) (old new : Stored S) → new.past ≡ old.past ++ (new.held, true) ∷ []
    → content g new ≡ tables_in (state g new.held).now.trees
content_after g old new past = ap (λ p. rows_in g (last_or None p)) past ∙ ap (rows_in g)
    (last_added old.past (new.held, true) None)

-- the store was settled before
module _ {S : Type 0} (g : Ghosts S) {kept : Option RegisterRows} {marks : Marks} (old new : Stored S)
    (settled : IsSoundStore g kept marks old)
    (back : honest g new → honest g old) where
  before_is : honest g new → IsTrue (state g old.held).is_open → tables_in (state g old.held).now.trees ≡ content g old
  before_is clean o = settled.rows (back clean) o

  held_before : honest g new → Holds (state g old.held)
  held_before clean o = settled.hub (back clean) o

  -- all changes are made
  becomes : {changes : List Change} → CommitsTo changes (state g old.held) (state g new.held) (Ok (tt {0}))
      → new.past ≡ old.past ++ (new.held, true) ∷ [] → honest g new → content g new ≡ apply_all changes (content g old)
  becomes {changes = changes} did past clean =
      content_after g old new past ∙ (did.done clean (held_before clean)).2 ∙ ap (apply_all changes) (before_is clean (did.ran clean))

  -- no change is made
  module _ (whole : old.fault ≡ None) (changes : List Change) where
    abbrev Done : Result (Unit {0}) StoreFault → Type 0
    Done found = CommitsTo changes (state g old.held) (state g new.held) found

    abbrev after : Tables
    after = apply_all changes (content g old)

    module _ (fault told : StoreFault) (did : Done (Err fault))
        (makes : Settles {X = Unit {0}} (Err fault) new.held.schema (Err told) new.fault)
        (past : new.past ≡ old.past) where
      same : content g new ≡ content g old
      same = same_content g old new settled whole past

      pub kept_all : Commits {X = Unit {0}} (content g) (honest g) (left g) (λ s. s.fault) old new changes (Err told)
      kept_all = record {
        done = λ clean fit. tt;
        kept = λ clean. same;
        durable = λ clean. tt;
        crash = λ clean t h. elim h [
          | inl e ↦ inl (inl (e ∙ same))
          | inr it ↦ elim (did.crash.crash clean it.0 it.1) [
            | inl was ↦ inl (inr (it.0, was, it.2))
            | inr all ↦
                let now = all (held_before clean) in
                let is : tables_in it.0 ≡ after = now.2 ∙ ap (apply_all changes) (before_is clean now.0) in
                inr (subst (Fit changes) (before_is clean now.0) now.1, it.2 ∙ is)
          ]
        ];
        was_honest = back;
        unclean = λ clean none is fit have. elim (did.unclean clean (held_before clean) (makes.unclean is)) [
          | inl may ↦ subst (MayRefuse changes) (before_is clean may.0) may.1 fit have
          | inr any ↦ inr (any (content g old) have)
        ];
      }

      pub kept_settles : IsSoundStore g kept marks new
      kept_settles =
          still g old new settled whole past did.mode (λ clean none. makes.usable none) back
          (λ clean o. did.kept clean (held_before clean) o)

      pub kept_fails : Fails {X = Unit {0}} false old.fault new.fault (Err told)
      kept_fails = failed old.fault new.fault (Err told) whole makes.lasting makes.version

-- all changes are made
module _ {S : Type 0} {g : Ghosts S} {kept : Option RegisterRows} {marks : Marks} {old new : Stored S}
    (settled : IsSoundStore g kept marks old)
    {changes : List Change} (did : CommitsTo changes (state g old.held) (state g new.held) (Ok (tt {0})))
    (past : new.past ≡ old.past ++ (new.held, true) ∷ []) where
  pub made : Commits {X = Unit {0}} (content g) (honest g) (left g) (λ s. s.fault) old new changes (Ok (tt {0}))
  made =
      let back = clean_before (state g old.held) (state g new.held) _ did.crash in
      let after = content_after g old new past in record {
        done = λ clean fit. becomes g old new settled back did past clean;
        kept = λ clean. tt;
        durable = λ clean t h. elim h [
          | inl e ↦ e
          | inr it ↦ it.2 ∙ ap tables_in (did.durable clean it.0 it.1) ∙ sym after
        ];
        crash = λ clean. tt;
        was_honest = back;
        unclean = λ clean none is. cc;
      }

  pub made_settles : {lower : Marks}
      → ((supplier : List ℕ) → mark_of lower supplier ≡ mark_after_all supplier changes (mark_of marks supplier))
      → btree_map_len lower ≤ btree_map_len marks → IsSoundStore g None lower new
  made_settles {lower = lower} lowers fewer =
      let back = clean_before (state g old.held) (state g new.held) _ did.crash in record {
        idle = did.mode;
        schema = λ none clean. (did.done clean (held_before g old new settled back clean)).1.schema;
        hub = λ clean o. (did.done clean (held_before g old new settled back clean)).1;
        rows = λ clean o. sym (content_after g old new past);
        register = λ clean. tt;
        taken = λ clean.
            subst (λ t. TakenUpToMarks t lower) (sym (becomes g old new settled back did past clean))
            (lowered changes (content g old) marks lower (settled.taken (back clean)) lowers);
        few = omega (arith, fewer, settled.few);
      }
