-- What a run of `show` did, by what was read and written.
use Rattle.std.proofs.Common.{subst, ◌≡◌, ℕ, List, take, Option, Some, None, Result, Err, inl, inr, refl, ap, ◌∙◌}
use Rattle.std.specs.Prelude.{◌≢◌, ◌⊎◌, IfSome}
use Rattle.std.specs.Io.KnownBytes.{Appends, Consumes}
use Rattle.edi_base.specs.Buffer.{AppendsFront}
use Rattle.edi_base.specs.declared.source.ReadFault.{ReadFault}
use Rattle.edi_base.specs.declared.source.ReadFault.TheVariants as read_faults
use Rattle.edi_relay.specs.Run.{read_limit}
use Rattle.hub_commands.specs.Show.{lines_shown, status_of, ShowsLines, ShowsFront}

-- where the reader stands
pub stands : (old new : Option (List ℕ)) (read : List ℕ)
    → Consumes old new read
    → IfSome old (λ k. read ≡ take read_limit k)
    → IfSome old (λ k. Consumes old new (take read_limit k))
stands None new read consumed whole = tt
stands (Some k) new read consumed whole = subst (λ (t : List ℕ). Consumes (Some k) new t) whole consumed

pub is_shown : (known : Option (List ℕ)) (status : ℕ) (old new : Option (List ℕ)) (read bytes lines : List ℕ)
    → IfSome known (λ k. read ≡ take read_limit k)
    → bytes ≡ read
    → status ≡ status_of bytes
    → lines ≡ lines_shown bytes
    → Appends old new lines
    → ShowsLines known status old new
is_shown None status old new read bytes lines whole same told said written = tt
is_shown (Some k) status old new read bytes lines whole same told said written = (
  told ∙ ap status_of (same ∙ whole),
  subst (λ (t : List ℕ). Appends old new t) (said ∙ ap lines_shown (same ∙ whole)) written,
)

pub is_front_shown : (known : Option (List ℕ)) (old new : Option (List ℕ)) (read bytes lines : List ℕ)
    → IfSome known (λ k. read ≡ take read_limit k)
    → bytes ≡ read
    → lines ≡ lines_shown bytes
    → AppendsFront old new lines
    → ShowsFront known old new
is_front_shown None old new read bytes lines whole same said written = tt
is_front_shown (Some k) old new read bytes lines whole same said written =
    subst (λ (t : List ℕ). AppendsFront old new t) (said ∙ ap lines_shown (same ∙ whole)) written

-- why nothing was read
pub not_read : {T File Memory Up Same : Type 0} (fault : ReadFault)
    → (fault ≡ read_faults.Read → File)
    → (fault ≡ read_faults.Memory → Memory)
    → (◌≡◌ {A = Result T ReadFault} (Err fault) (Err read_faults.Read) → Up)
    → (◌≢◌ {A = Result T ReadFault} (Err fault) (Err read_faults.Read) → Same)
    → (File × Up) ⊎ (Memory × Same)
not_read read_faults.Read file memory up same = inl (file refl, up refl)
not_read read_faults.Memory file memory up same = inr (memory refl, same (λ e. cc))

-- what is told where nothing was read: `file` where the reader failed, else `memory`, and nothing is written
module _ {T File Memory Up Same : Type 0} (fault : ReadFault)
    (file : fault ≡ read_faults.Read → File)
    (memory : fault ≡ read_faults.Memory → Memory)
    (up : ◌≡◌ {A = Result T ReadFault} (Err fault) (Err read_faults.Read) → Up)
    (same : ◌≢◌ {A = Result T ReadFault} (Err fault) (Err read_faults.Read) → Same) where
  pub read_or_told : {Status : Type 0} → Status → Same ⊎ (Status × File)
  read_or_told status =
      elim (not_read fault file memory up same) [ inl h ↦ inr (status, h.0) | inr h ↦ inl h.1 ]

  pub failed_unwritten : {Untouched Written : Type 0} → Untouched → (File × ((Up × Untouched) ⊎ Written)) ⊎ (Memory × Untouched)
  failed_unwritten untouched =
      elim (not_read fault file memory up same) [
        | inl h ↦ inl (h.0, inl (h.1, untouched))
        | inr h ↦ inr (h.0, untouched)
      ]
