-- Messages that are made.
use Rattle.std.specs.Prelude.{◌≡◌, List, [], ◌∷◌, ◌+◌, ℕ, None, Ok, Some, map, refl}
use Rattle.std.proofs.Common.{sym, subst}
use Rattle.merge_ident.specs.Holders.{Holder}
use Rattle.merge_batch.specs.declared.request.Outstanding.TheVariants as ask
use Rattle.merge_batch.specs.declared.request.RangeAsk.{RangeAsk}
use Rattle.merge_batch.specs.declared.request.Want.{Want}
use Rattle.merge_model.specs.Tables.Refusals.{unless}
use Rattle.merge_model.specs.Subscriber.Sending.{make_ranges, ranges_made, sending_refusal, want_of, with_message}
use Rattle.merge_model.specs.Tables.{SubscriberTables}
use Rattle.merge_sub.specs.Drafts.{after, drafted}
use Rattle.merge_sub.specs.Held.{Held, tables_of}
use Rattle.merge_sub.specs.declared.changes.Draft.{Draft}

ranges-by : (s : SubscriberTables) (held : List (ℕ × Holder)) → s.held ≡ held → (held ≡ [] → ⊥) → ranges_made s ≡ Some (with_message ask.Ranges s, record { site = s.site; seq = s.seq + 1; wants = map want_of s.held })
ranges-by s [] is some = absurd (some refl)
ranges-by s (entry ∷ entries) is some = rw is refl

-- where some article has ranges
ranges-are-made : (s : SubscriberTables) → sending_refusal s ≡ None → (s.held ≡ [] → ⊥) → (made : SubscriberTables) → made ≡ with_message ask.Ranges s → (wants : List Want) → wants ≡ map want_of s.held
    → make_ranges s ≡ Ok (Some (made, record { site = s.site; seq = s.seq + 1; wants = wants }))
ranges-are-made s passes some made is wants all = rw (passes, is, all, ranges-by s s.held refl some) refl

pub ranges-drafted : (h now : Held) → h ≡ now → sending_refusal (tables_of now) ≡ None → (now.held.rows ≡ [] → ⊥) → (d : Draft) → after d.changes (tables_of now) ≡ with_message ask.Ranges (tables_of now)
    → (wants : List Want) → wants ≡ map want_of h.held.rows → make_ranges (tables_of now) ≡ Ok (Some (drafted (tables_of now) (d, record { site = h.site; seq = h.state.seq + 1; wants = wants })))
ranges-drafted h now view passes some d made wants all =
    let each : wants ≡ map want_of now.held.rows = subst (λ (x : Held). wants ≡ map want_of x.held.rows) view all in
    subst (λ (x : Held). make_ranges (tables_of now) ≡ Ok (Some (after d.changes (tables_of now), record { site = x.site; seq = x.state.seq + 1; wants = wants }))) (sym view)
    (ranges-are-made (tables_of now) passes some (after d.changes (tables_of now)) made wants each)
