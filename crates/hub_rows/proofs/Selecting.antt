-- Shows that a statement that is a query only reads, under any schema.
use Rattle.std.proofs.Common.{◌≡◌, ◌∙◌, inl, inr, Bool, true, false, cond, ℕ, List, Ok, Err, Option, None, refl, sym, ap}
use Rattle.std.proofs.lemmas.Bool.{cases_Bool}
use Rattle.sqlite_ast.specs.declared.Statement.{Statement}
use Rattle.sqlite_ast.specs.declared.Statement.TheVariants as written
use Rattle.sqlite_syntax.specs.declared.statement.Parsed.{Parsed}
use Rattle.sqlite_schema.specs.declared.schema.Schema.{Schema}
use Rattle.sqlite_schema.specs.declared.command.Command.{Command}
use Rattle.sqlite_resolve.specs.declared.compiled.Compiled.{Compiled}
use Rattle.sqlite_resolve.specs.declared.error.CompileError.TheVariants.{NoSuchTable}
use Rattle.sqlite_schema.specs.declared.command.Returning.{Returning}
use Rattle.sqlite_resolve.specs.Lowering.{Checked, and_then}
use Rattle.sqlite_resolve.specs.Compile.{first, compiled, planned, meaning, returning, command}
use Rattle.sqlite.specs.Listing.{understood, reads_listing, if_select, is_select, listing_schema}
use Rattle.hub_rows.specs.Asks.{OnlyReads}

abbrev pub is_query : Statement → Bool
is_query (written.Select s) = true
is_query _ = false

abbrev pub begins_query : Checked Parsed → Bool
begins_query (Ok p) = is_query p.statement
begins_query (Err e) = true

-- if two steps give a value, the first gave one too
given : {A B : Type 0} (one : Checked A) (next : A → Checked B) (b : B) → and_then one next ≡ Ok b → (a : A) × (one ≡ Ok a)
    × (next a ≡ Ok b)
given (Ok a) next b h = (a, refl, h)
given (Err e) next b h = absurd cc

ok_is : {A : Type 0} (a b : A) → ◌≡◌ {A = Checked A} (Ok a) (Ok b) → a ≡ b
ok_is a b h = cc

returns_none : (schema : Schema) (base : ℕ) (s : Statement) → is_query s ≡ true → returning schema base s ≡ Ok None
unfolding returning
returns_none schema base (written.Select s) h = refl
returns_none schema base _ h = absurd cc

compiled_reads : (schema : Schema) (text : List ℕ) (c : Compiled) → begins_query (first text) ≡ true → compiled schema text ≡ Ok c
    → c.returning ≡ None
unfolding compiled planned meaning
compiled_reads schema text c query h =
    let parsed = given (first text) _ c h in
    let p = parsed.0 in
    let is = ap begins_query (sym parsed.1) ∙ query in
    let plan = given (planned schema p) _ c parsed.2 in
    let found = given _ _ plan.0 plan.1 in
    let shown = given (returning schema _ p.statement) _ found.0 found.1 in
    let ran = given (command schema p.formats _ p.statement) _ found.0 shown.2 in
    let none = ok_is _ _ (sym shown.1 ∙ returns_none schema _ p.statement is) in
    ap (λ (c : Compiled). c.returning) (sym (ok_is _ _ plan.2))
    ∙ ap (λ (plan : List (List ℕ) × (Command × Option Returning)). plan.1.1) (sym (ok_is _ _ found.2))
    ∙ ap (λ (found : Command × Option Returning). found.1) (sym (ok_is _ _ ran.2))
    ∙ none

listed_reads : (r : Checked Compiled) (c : Compiled) → if_select r ≡ Ok c → r ≡ Ok c
listed_reads (Ok d) c h = elim (cases_Bool (is_select d.command)) [
  | inl e ↦ sym (ap (λ b. cond b (Ok d) (Err NoSuchTable)) e) ∙ h
  | inr e ↦ absurd (let no = sym (ap (λ b. cond b (Ok d) (Err NoSuchTable)) e) ∙ h in cc)
]
listed_reads (Err e) c h = absurd cc

pub only_reads : (text : List ℕ) → begins_query (first text) ≡ true → OnlyReads text
unfolding understood
only_reads text query schema c h = elim (cases_Bool (reads_listing schema text)) [
  | inl e ↦ compiled_reads listing_schema text c query (listed_reads (compiled listing_schema text) c
      (sym (ap (λ b. cond b (if_select (compiled listing_schema text)) (compiled schema text)) e) ∙ h))
  | inr e ↦ compiled_reads schema text c query (sym (ap (λ b. cond b (if_select (compiled listing_schema text)) (compiled schema text)) e)
      ∙ h)
]
