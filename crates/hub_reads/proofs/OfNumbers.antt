-- Proves what look-ups of lines by one number after another find.
use Rattle.std.proofs.Common.{◌≡◌, ℕ, List, ◌∷◌, ◌++◌, false, Bool, IsTrue, Ok, Err, sym, ap, ◌∙◌, append_assoc}
use Rattle.std.specs.List.{list_all}
use Rattle.std.proofs.lemmas.Bool.{and_from}
use Rattle.std.proofs.lemmas.List.Folds.{list_all-append}
use Rattle.sqlite.specs.State.{State}
use Rattle.hub_store.specs.Clean.{are_clean}
use Rattle.hub_store.specs.Lines.{lines_numbered, lines_at}
use Rattle.hub_store.specs.declared.fault.StoreFault.{StoreFault}
use Rattle.hub_store.specs.declared.fault.StoreFault.TheVariants.{Unclean}
use Rattle.hub_tables.specs.Tables.{Tables, view}
use Rattle.hub_tables.specs.declared.rows.LineRow.{LineRow}
use Rattle.hub_schema.specs.State.{LooksFor, LooksUp}
use Rattle.hub_rows.proofs.Joining.{found_on, found_then, failed_for, fault_on}

-- what was found, with the lines of the numbers that are left, are the lines of all numbers
abbrev pub LooksSoFar : (supplier number left all : List ℕ) → State → State → List LineRow → Type 0
LooksSoFar supplier number left all old new found =
    LooksFor (λ t rows. rows ++ lines_at (view supplier t) number left ≡ lines_at (view supplier t) number all)
    (λ t. are_clean t ≡ false) old new (Ok found)

pub next_look : (supplier number left rest all : List ℕ) (n : ℕ) (old mid new : State) (found rows now : List LineRow) → left ≡ n ∷ rest
    → now ≡ found ++ rows → LooksSoFar supplier number left all old mid found
    → LooksUp (λ t. lines_numbered (view supplier t) number n) mid new (Ok rows) → LooksSoFar supplier number rest all old new now
next_look supplier number left rest all n old mid new found rows now is put so it =
    let at : Tables → List ℕ → List LineRow = λ t numbers. lines_at (view supplier t) number numbers in
    found_on (λ t x. found ++ (x ++ at t rest) ≡ at t all) (λ t x. x ++ at t rest ≡ at t all)
    (λ t. are_clean t ≡ false) (λ t. are_clean t ≡ false) old new rows now
    (λ t h. ap (λ xs. xs ++ at t rest) put ∙ append_assoc found rows (at t rest) ∙ h)
    (found_then (λ t x. x ++ at t left ≡ at t all) (λ t x. x ≡ lines_numbered (view supplier t) number n)
    (λ t x. found ++ (x ++ at t rest) ≡ at t all) (λ t. are_clean t ≡ false) (λ t. are_clean t ≡ false) (λ t. are_clean t ≡ false)
    old mid new found
    (λ t before x h. ap (λ xs. found ++ (xs ++ at t rest)) h ∙ ap (λ numbers. found ++ at t numbers) (sym is) ∙ before)
    (λ t _ h. h) so (Ok rows) it)

pub failed_look : (supplier number left all : List ℕ) (n : ℕ) (old mid new : State) (found : List LineRow) (fault : StoreFault)
    → LooksSoFar supplier number left all old mid found
    → LooksUp (λ t. lines_numbered (view supplier t) number n) mid new (Err fault)
    → LooksUp (λ t. lines_at (view supplier t) number all) old new (Err fault)
failed_look supplier number left all n old mid new found fault so it =
    found_then (λ t x. x ++ lines_at (view supplier t) number left ≡ lines_at (view supplier t) number all) (λ t x. ⊥)
    (λ t x. x ≡ lines_at (view supplier t) number all) (λ t. are_clean t ≡ false) (λ t. are_clean t ≡ false)
    (λ t. are_clean t ≡ false) old mid new found (λ t before x no. absurd no) (λ t _ h. h) so (Err fault)
    (failed_for (λ t x. x ≡ lines_numbered (view supplier t) number n) (λ t x. ⊥) (λ t. are_clean t ≡ false)
    (λ t. are_clean t ≡ false) mid new (λ t h. h) fault it)

-- there was no memory for what was found
pub unput_look : (supplier number left all : List ℕ) (n : ℕ) (old mid new : State) (found rows : List LineRow) (fault : StoreFault)
    → (fault ≡ Unclean → ⊥) → LooksSoFar supplier number left all old mid found
    → LooksUp (λ t. lines_numbered (view supplier t) number n) mid new (Ok rows)
    → LooksUp (λ t. lines_at (view supplier t) number all) old new (Err fault)
unput_look supplier number left all n old mid new found rows fault other so it =
    failed_look supplier number left all n old mid new found fault so
    (fault_on (λ t x. x ≡ lines_numbered (view supplier t) number n) (λ t x. x ≡ lines_numbered (view supplier t) number n)
    (λ t. are_clean t ≡ false) (λ t. are_clean t ≡ false) mid new rows fault (λ is t _. absurd (other is)) it)

pub clean_too : {X : Type 0} (p : X → Bool) (found rows now : List X) → now ≡ found ++ rows → IsTrue (list_all p found)
    → IsTrue (list_all p rows) → IsTrue (list_all p now)
clean_too p found rows now put before these =
    ap (list_all p) put ∙ list_all-append p found rows ∙ and_from (list_all p found) (list_all p rows) before these
