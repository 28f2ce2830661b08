-- Shows that a text without a statement fails only if the store fails, which undoes the transaction.
use Rattle.std.proofs.Common.{◌≡◌, inl, inr, [], length, false, Result, Ok, Err, None, IsSome, refl, sym, ap}
use Rattle.std.proofs.Common.{subst, true≢false, arith}
use Rattle.sqlite_value.specs.Order.{Row}
use Rattle.sqlite_schema.specs.declared.schema.Schema.{Schema}
use Rattle.sqlite_schema.specs.declared.command.Command.TheVariants.{Nothing}
use Rattle.sqlite_resolve.specs.declared.compiled.Compiled.{Compiled}
use Rattle.sqlite_resolve.specs.declared.error.CompileError.{CompileError}
use Rattle.sqlite_tied.specs.Compute.{everything}
use Rattle.sqlite.specs.Calls.{IsWrite}
use Rattle.sqlite.specs.Listing.{understood}
use Rattle.sqlite.specs.declared.error.Error.{Error}
use Rattle.sqlite.specs.State.{State, ExecutesIn, ExecutesInside, EndsScope, IsMisplaced, IsNoStatement}
use Rattle.sqlite.specs.State.{IsNotRun, IsRolledBack, RunsCommand, RunsAlone, shows_rows}
use Rattle.hub_schema.specs.State.{IsUndone}
use Rattle.hub_schema.proofs.Leaving.{rolled_back}

-- it compiles to a command that does nothing
record DoesNothing (c : Compiled) : Type 0 where
  command : c.command ≡ Nothing
  returning : c.returning ≡ None
  names : c.names ≡ []
  formats : c.formats ≡ []

abbrev IsNothing : Result Compiled CompileError → Type 0
IsNothing (Ok c) = DoesNothing c
IsNothing (Err e) = ⊥

nothing : (schema : Schema) → IsNothing (understood schema [])
unfolding understood everything
nothing schema = record { command = refl; returning = refl; names = refl; formats = refl }

compiled : (schema : Schema) (c : Compiled) → understood schema [] ≡ Ok c → DoesNothing c
compiled schema c is = subst IsNothing is (nothing schema)

is_statement : (s : State) (e : Error) → IsNoStatement s [] [] e → ⊥
is_statement s e (inl h) = subst IsNothing h.1 (nothing s.now.schema)
is_statement s e (inr (c, is, inl long)) = long.0 (omega arith)
is_statement s e (inr (c, is, inr (inl count))) =
    count.0 (sym (ap length (compiled s.now.schema c is).names))
is_statement s e (inr (c, is, inr (inr timed))) = timed.0 (compiled s.now.schema c is).formats

placed : (s : State) (e : Error) → IsMisplaced s Nothing e → ⊥
placed s e (inl (is, inl begin)) = let bad = begin.0 in cc
placed s e (inl (is, inr (inl commit, out))) = cc
placed s e (inl (is, inr (inr rollback, out))) = cc
placed s e (inr (is, name, inl release, other)) = cc
placed s e (inr (is, name, inr back, other)) = cc

only_fails : (old new : State) (c : Compiled) (params : Row) (e : Error) → DoesNothing c
    → RunsAlone false old new [] c params (Err e) → IsRolledBack old new
only_fails old new c params e it h =
    let bare : shows_rows false c ≡ false = rw (it.command, it.returning) refl in
    let run : RunsCommand old new [] c params (Err e) = rw bare at h in
    elim run [
      | inl refused ↦ absurd (elim refused.0 [
        | inl out ↦ placed old e (subst (λ k. IsMisplaced old k e) it.command out)
        | inr changes ↦ elim changes.0 [
          | inl write ↦ subst IsWrite it.command write
          | inr shows ↦ true≢false (sym (subst IsSome it.returning shows))
        ]
      ])
      | inr fails ↦ fails.3
    ]

pub nothing_undone : (old new : State) (e : Error) → ExecutesInside 0 [] [] old new (Err e) → IsUndone old new
unfolding ExecutesIn IsNotRun EndsScope
nothing_undone old new e (inl (inl (inl unread), so)) = absurd (is_statement old e unread.0)
nothing_undone old new e (inl (inl (inr fails), so)) = rolled_back old new fails.3
nothing_undone old new e (inl (inr (c, it, ran), so)) =
    rolled_back old new (only_fails old new c _ e (compiled old.now.schema c it.is) ran)
nothing_undone old new e (inr (ends, is, same)) =
    absurd (elim ends.2 [
      | inl out ↦ let command = (compiled old.now.schema ends.0 ends.1.is).command in
          elim out [ inl commit ↦ cc | inr rollback ↦ cc ]
      | inr named ↦ let command = (compiled old.now.schema ends.0 ends.1.is).command in
          elim named.1 [ inl release ↦ cc | inr back ↦ cc ]
    ])
