-- Shows that what holds of each route holds of the one that is found.
use Rattle.std.proofs.Common.{◌≡◌, ℕ, ◌-◌, List, [], ◌∷◌, length, true, false, cond, ltb, ◌==◌, Option, Some}
use Rattle.std.proofs.Common.{None, subst, zero, suc}
use Rattle.matchit.specs.Rows.{RowsOf, param_token, catch_all_token, comes_before}
use Rattle.matchit.specs.Order.{placed}
use Rattle.matchit.specs.Seek.{own, step, or_else, with_suffix, longest_suffix, segment, has_slash, same_text, param_step, seek, first}

module _ {K : Type 0} (P : K → Type 0) where
  -- holds of each row
  abbrev pub EachKey : RowsOf K → Type 0
  EachKey [] = Unit {0}
  EachKey ((t, key) ∷ rest) = P key × EachKey rest

  -- holds of the row that was found, if any
  abbrev pub HoldsFound : Option K → Type 0
  HoldsFound None = Unit {0}
  HoldsFound (Some key) = P key

  each_own : (rs : RowsOf K) → EachKey rs → HoldsFound (own rs)
  each_own [] h = tt
  each_own (([], key) ∷ rest) h = h.0
  each_own ((x ∷ t, key) ∷ rest) h = each_own rest h.1

  each_step : (b : ℕ) (rs : RowsOf K) → EachKey rs → EachKey (step b rs)
  each_step b [] h = tt
  each_step b (([], key) ∷ rest) h = each_step b rest h.1
  each_step b ((x ∷ t, key) ∷ rest) h =
      elim (x == b) as (λ v. EachKey (cond v ((t, key) ∷ step b rest) (step b rest)))
      [ true ↦ (h.0, each_step b rest h.1) | false ↦ each_step b rest h.1 ]

  each_suffix : (suffix : List ℕ) (rs : RowsOf K) → EachKey rs → EachKey (with_suffix suffix rs)
  each_suffix suffix [] h = tt
  each_suffix suffix ((t, key) ∷ rest) h =
      elim (same_text (segment t) suffix) as (λ v. EachKey (cond v ((t, key) ∷ with_suffix suffix rest) (with_suffix suffix rest)))
      [ true ↦ (h.0, each_suffix suffix rest h.1) | false ↦ each_suffix suffix rest h.1 ]

  each_param : (rs : RowsOf K) (path : List ℕ) → EachKey rs → EachKey (param_step rs path).1
  unfolding param_step
  each_param rs path h =
      let long : List ℕ = longest_suffix (segment path) rs in
      elim (ltb 0 (length long))
      as (λ v. EachKey (cond {A = ℕ × RowsOf K} v (length (segment path) - length long, with_suffix long rs)
      (cond {A = ℕ × RowsOf K} (has_slash path) (0, []) (length path, rs))).1) [
        | true ↦ each_suffix long rs h
        | false ↦ elim (has_slash path) as (λ w. EachKey (cond {A = ℕ × RowsOf K} w (0, []) (length path, rs)).1) [ true ↦ tt | false ↦ h ]
      ]

  holds_or : (a b : Option K) → HoldsFound a → HoldsFound b → HoldsFound (or_else a b)
  holds_or None b x y = y
  holds_or (Some key) b x y = x

  each_seek : (skip : ℕ) (rs : RowsOf K) (path : List ℕ) → EachKey rs → HoldsFound (seek skip rs path)
  unfolding seek
  each_seek skip rs [] h = each_own rs h
  each_seek (suc skip) rs (b ∷ path) h = each_seek skip rs path h
  each_seek zero rs (b ∷ path) h =
      holds_or _ _ (each_seek 0 (step b rs) path (each_step b rs h))
      (holds_or _ _ (each_seek ((param_step (step param_token rs) (b ∷ path)).0 - 1) (param_step (step param_token rs) (b ∷ path)).1 path
      (each_param (step param_token rs) (b ∷ path) (each_step param_token rs h)))
      (each_own (step catch_all_token rs) (each_step catch_all_token rs h)))

  pub found_holds : (rs : RowsOf K) (path : List ℕ) (key : K) → EachKey rs → first rs path ≡ Some key → P key
  found_holds rs path key h e = subst HoldsFound e (each_seek 0 rs path h)

  pub each_placed : (row : List ℕ × K) (rs : RowsOf K) → P row.1 → EachKey rs → EachKey (placed row rs)
  each_placed row [] p h = (p, tt)
  each_placed row ((t, key) ∷ rest) p h =
      elim (comes_before row.0 t) as (λ v. EachKey (cond v (row ∷ (t, key) ∷ rest) ((t, key) ∷ placed row rest)))
      [ true ↦ (p, h) | false ↦ (h.0, each_placed row rest p h.1) ]
