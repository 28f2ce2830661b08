-- Compares lists with what definitions say.
use Rattle.std.proofs.Common.{◌≡◌, ◌<◌, ◌≤◌, ℕ, suc, ◌+◌, min, ◌==◌, Bool, IsTrue, List, [], ◌∷◌, length, take, get_or, refl, sym}
use Rattle.std.proofs.Common.{ap, ap₂, ◌∙◌, arith}
use Rattle.std.proofs.lemmas.Bool.Decides.{nat_tests}
use Rattle.std.proofs.Math.Seq.{take-append_seam}
use Rattle.std.proofs.lemmas.List.{length-append}
use Rattle.sqlite.specs.Table.{Table}
use Rattle.sqlite_schema.specs.declared.schema.Column.{Column}
use Rattle.sqlite_schema.specs.declared.schema.Index.{Index}
use Rattle.hub_schema.specs.Definitions.{all_indexes, columns_of, numbered, own_indexes}
use Rattle.hub_schema.specs.declared.definitions.Definition.{Definition}
use Rattle.hub_schema.specs.declared.definitions.TableKey.{TableKey}

pub none_numbered : (tables : List Table) (tree : ℕ) (definitions : List Definition) (b : Bool) → length tables < 1
    → b ≡ (length definitions == 0)
    → (IsTrue b → tables ≡ numbered tree definitions) × (tables ≡ numbered tree definitions → IsTrue b)
none_numbered [] tree [] b low is = (λ _. refl, λ _. is)
none_numbered [] tree (d ∷ definitions) b low is = (λ so. absurd (grind (arith, nat_tests, so, is)), λ e. absurd cc)
none_numbered (table ∷ tables) tree definitions b low is = absurd (omega (arith, low))

pub none_own : (indexes : List Index) (table tree : ℕ) (columns : List Column) (keys : List TableKey) (b : Bool)
    → length indexes < 1 → b ≡ (length keys == 0)
    → (IsTrue b → indexes ≡ own_indexes table tree columns keys)
    × (indexes ≡ own_indexes table tree columns keys → IsTrue b)
none_own [] table tree columns [] b low is = (λ _. refl, λ _. is)
none_own [] table tree columns (key ∷ keys) b low is = (λ so. absurd (grind (arith, nat_tests, so, is)), λ e. absurd cc)
none_own (index ∷ indexes) table tree columns keys b low is = absurd (omega (arith, low))

own_length : (table tree : ℕ) (columns : List Column) (keys : List TableKey)
    → length (own_indexes table tree columns keys) ≡ length keys
own_length table tree columns [] = refl
own_length table tree columns (key ∷ keys) = ap suc (own_length table (tree + 1) columns keys)

least : (m a b c : ℕ) → a ≡ b + c → m ≡ min a b → m ≡ b
least m a b c sum is = grind (arith, sum, is)

-- the indexes of the first table come first
pub own_first : (indexes : List Index) (tables : List Table) (definitions : List Definition) (table : Table)
    (none : Definition) (m : ℕ) → 1 ≤ length tables → 1 ≤ length definitions → table ≡ get_or tables 0 table
    → m ≡ min (length indexes) (length (get_or definitions 0 none).keys.now)
    → indexes ≡ all_indexes tables definitions
    → take m indexes ≡ own_indexes table.tree (table.tree + 1) (columns_of (get_or definitions 0 none))
    (get_or definitions 0 none).keys.now
own_first indexes [] definitions table none m some also is size e = absurd (omega (arith, some))
own_first indexes (x ∷ tables) [] table none m some also is size e = absurd (omega (arith, also))
own_first indexes (x ∷ tables) (d ∷ definitions) table none m some also is size e =
    let own = own_indexes x.tree (x.tree + 1) (columns_of d) d.keys.now in
    let rest = all_indexes tables definitions in
    let all : length indexes ≡ length d.keys.now + length rest = ap length e ∙ length-append own rest
    ∙ ap (λ n. n + length rest) (own_length x.tree (x.tree + 1) (columns_of d) d.keys.now) in
    let here : m ≡ length own = least m (length indexes) (length d.keys.now) (length rest) all size
    ∙ sym (own_length x.tree (x.tree + 1) (columns_of d) d.keys.now) in
    ap₂ take here e ∙ take-append_seam own rest
    ∙ ap (λ (t : Table). own_indexes t.tree (t.tree + 1) (columns_of d) d.keys.now) (sym is)
