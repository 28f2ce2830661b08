-- Proves what an act leaves that follows look-ups, which do nothing.
use Rattle.std.proofs.Common.{◌≡◌, inl, inr, Result, Ok, Err, sym, subst, ap, ◌∙◌}
use Rattle.hub_tables.specs.Tables.{Tables}
use Rattle.hub_store.specs.declared.fault.StoreFault.{StoreFault}
use Rattle.hub_store.specs.declared.store.Store.{Ghosts}
use Rattle.hub_acts.specs.Acts.{Stays, Carried}

module _ {S X Y : Type 0} (g : Ghosts S) (old middle new : S)
    (act judged : Tables → Y × Tables) (seen : X → Y) (fits : Tables → Type 0)
    (stays : Stays g old middle) (was : g.honest new → g.honest middle)
    (same : g.honest middle → act (g.content old) ≡ judged (g.content old)) (fit : g.honest middle → fits (g.content old)) where
  middle_is : g.honest new → judged (g.content middle) ≡ act (g.content old)
  middle_is h = ap judged (stays.content_stays (was h)) ∙ sym (same (was h))

  fit_then : g.honest new → fits (g.content middle)
  fit_then h = subst fits (sym (stays.content_stays (was h))) (fit (was h))

  pub after_looking : (result : Result X StoreFault)
      → (fits (g.content middle) → Carried g middle new judged seen result)
      → Carried g old new act seen result
  after_looking (Ok x) then = record {
    done = λ h. sym (middle_is h) ∙ (then (fit_then h)).done h;
    durable = λ h t is. elim ((then (fit_then h)).durable h t is) [
      | inl e ↦ inl e
      | inr e ↦ inr (e.0 ∙ stays.content_stays (was h), stays.left_stays (was h) t e.1)
    ];
    crash = λ h. tt;
  }
  after_looking (Err fault) then = record {
    done = λ h. tt;
    durable = λ h. tt;
    crash = λ h t is. elim ((then (fit_then h)).crash h t is) [
      | inl e ↦ inl (stays.left_stays (was h) t e)
      | inr e ↦ inr (e ∙ ap (λ (done : Y × Tables). done.1) (middle_is h))
    ];
  }
