-- The edits of a whole commit.
use Rattle.std.proofs.Common.{◌≡◌, ◌∙◌, ℕ, ◌+◌, ◌^◌, ◌<◌, List, [], ◌∷◌, ◌++◌, map, refl, sym, ap}
use Rattle.std.specs.List.{AllByRecursion}
use Rattle.std.specs.Ordering.{nat_cmp, ordering_then}
use Rattle.std.specs.Cmp.{nat_cmp_is}
use Rattle.std.specs.Cmp.Lexicographic.{slice_cmp}
use Rattle.std.specs.declared.cmp.Ordering.{Ordering}
use Rattle.std.specs.declared.cmp.Ordering.TheVariants.{Less}
use Rattle.std.proofs.lemmas.List.{append-nil}
use Rattle.std.proofs.lemmas.Map.Lookups.{exact_unsigned}
use Rattle.merge_types.specs.RowKeys.{key_cmp, key_exact}
use Rattle.merge_table.specs.declared.edit.Edit.{Edit}
use Rattle.merge_table.specs.declared.edit.Edit.TheVariants.{Put, Take}
use Rattle.merge_table.specs.Edits.{rows_after_all}
use Rattle.merge_gens.specs.Moves.{row_site_cmp, row_site_exact}
use Rattle.merge_ident.specs.Holders.{Holder}
use Rattle.merge_ident.specs.Grants.{with_grants}
use Rattle.merge_ident.specs.declared.grants.Grant.{Grant}
use Rattle.merge_ports.specs.declared.entry.EntryKey.{EntryKey}
use Rattle.merge_ports.specs.Entries.{Map, entry_cmp}
use Rattle.merge_record.specs.Tables.{IsRowKey, IsRowSite}
use Rattle.merge_keeper.specs.Encoded.{Part, AllKeys, AllEditKeys, AreFrom, all_entries, all_edits, all_after, encoded_entries, encoded_edits, puts_of}
use Rattle.merge_keeper.specs.Entries.{state_key, row_entry_key, mapping_key, closing_key, conflict_key, held_key, grant_key, site_key, publisher_row_value, subscriber_row_value, mapping_value, closing_value, conflict_value, held_value, grant_value, site_value, closing_pair, conflict_pair, was_received, row_entries, mapping_entries, closing_entries, conflict_entries, held_entries, range_entries, site_entries}
use Rattle.merge_keeper.specs.Stored.{publisher_state, publisher_records, publisher_after, publisher_edits, subscriber_state, subscriber_records, subscriber_after, subscriber_edits, held_put, closing_edits, conflict_edits, held_edits, IsPublisherKeyed, FitPublisher, IsSubscriberKeyed, FitSubscriber}
use Rattle.merge_keeper.specs.declared.stored.PublisherStored.{PublisherStored}
use Rattle.merge_keeper.specs.declared.stored.PublisherChanges.{PublisherChanges}
use Rattle.merge_keeper.specs.declared.stored.SubscriberStored.{SubscriberStored}
use Rattle.merge_keeper.specs.declared.stored.SubscriberChanges.{SubscriberChanges}
use Rattle.merge_keeper.proofs.Encoding.{keys-after_all, encoded-after_all}
use Rattle.merge_keeper.proofs.KeptLemmas.{entry_total}
use Rattle.merge_keeper.proofs.Parts.{parts_after, edits_join}
use Rattle.merge_keeper.proofs.Follow.{row_keys_order, mapping_keys_order, site_keys_order, closings_follow, conflicts_follow, held_follow, ranges_follow}

by_table : (x y : EntryKey) → x.table < y.table → entry_cmp x y ≡ Less
by_table x y lt = ap (λ (o : Ordering). ordering_then o (slice_cmp nat_cmp x.key y.key)) (sym (nat_cmp_is x.table y.table Less lt))

abbrev table_of : EntryKey → ℕ
table_of k = k.table

encoded_keys : {K V L W : Type 0} (Q : L → Type 0) (f : K → L) (g : K → V → W) → ((k : K) → Q (f k)) → (es : List (K × V)) → AllKeys Q (encoded_entries f g es)
encoded_keys Q f g all [] = tt
encoded_keys Q f g all (e ∷ es) = (all e.0, encoded_keys Q f g all es)

encoded_edit_keys : {K V L W : Type 0} (Q : L → Type 0) (f : K → L) (g : K → V → W) → ((k : K) → Q (f k)) → (es : List (Edit K V)) → AllEditKeys Q (encoded_edits f g es)
encoded_edit_keys Q f g all [] = tt
encoded_edit_keys Q f g all (Put k v ∷ es) = (all k, encoded_edit_keys Q f g all es)
encoded_edit_keys Q f g all (Take k ∷ es) = (all k, encoded_edit_keys Q f g all es)

puts_keys : {X L W : Type 0} (Q : L → Type 0) (f : X → L) (g : X → W) → ((x : X) → Q (f x)) → (xs : List X) → AllEditKeys Q (puts_of f g xs)
puts_keys Q f g all [] = tt
puts_keys Q f g all (x ∷ xs) = (all x, puts_keys Q f g all xs)

-- the entries of one table, and the edits of them
abbrev part : Map → List (Edit EntryKey (List ℕ)) → Part EntryKey (List ℕ)
part entries edits = record { entries = entries; edits = edits }

abbrev no_part : Part EntryKey (List ℕ)
no_part = part [] []

abbrev In : ℕ → EntryKey → Type 0
In n k = table_of k ≡ n

-- ---- the publisher

abbrev publisher_parts : PublisherChanges → PublisherStored → List (Part EntryKey (List ℕ))
publisher_parts c t =
    part ((state_key, publisher_state t) ∷ []) (Put state_key (publisher_state (publisher_after c t)) ∷ [])
    ∷ part (row_entries publisher_row_value t.rows) (encoded_edits row_entry_key publisher_row_value c.rows)
    ∷ part (mapping_entries t.mappings) (encoded_edits mapping_key mapping_value c.mappings)
    ∷ part (closing_entries t.closings) (closing_edits c.closings)
    ∷ part (conflict_entries t.conflicts) (conflict_edits c.conflicts)
    ∷ part (range_entries t.held t.grants) (held_edits c.held ++ puts_of grant_key grant_value c.grants)
    ∷ part (site_entries t.sites) (encoded_edits site_key site_value c.sites)
    ∷ []

held_numbered : (held : List (ℕ × Holder)) → AllKeys (In 6) (held_entries held)
held_numbered held = encoded_keys (In 6) held_key held_value (λ k. refl) _

held_edits_numbered : (puts : List (ℕ × Holder)) → AllEditKeys (In 6) (held_edits puts)
held_edits_numbered puts = encoded_edit_keys (In 6) held_key held_value (λ k. refl) (map held_put puts)

grants_numbered : (grants : List Grant) → AllEditKeys (In 6) (puts_of grant_key grant_value grants)
grants_numbered grants = puts_keys (In 6) grant_key grant_value (λ g. refl) grants

publisher_numbered : (c : PublisherChanges) (t : PublisherStored) → AreFrom table_of 1 (publisher_parts c t)
publisher_numbered c t = (
  ((refl, tt), (refl, tt)),
  (
    (encoded_keys (In 2) row_entry_key publisher_row_value (λ k. refl) t.rows, encoded_edit_keys (In 2) row_entry_key publisher_row_value (λ k. refl) c.rows),
    (
      (encoded_keys (In 3) mapping_key mapping_value (λ k. refl) t.mappings, encoded_edit_keys (In 3) mapping_key mapping_value (λ k. refl) c.mappings),
      (
        (encoded_keys (In 4) closing_key closing_value (λ k. refl) (map closing_pair t.closings), encoded_edit_keys (In 4) closing_key closing_value (λ k. refl) c.closings),
        (
          (encoded_keys (In 5) conflict_key conflict_value (λ k. refl) (map conflict_pair t.conflicts), encoded_edit_keys (In 5) conflict_key conflict_value (λ k. refl) c.conflicts),
          (
            (keys-after_all (In 6) entry_cmp (puts_of grant_key grant_value t.grants) (grants_numbered t.grants) (held_entries t.held) (held_numbered t.held), edits_join (In 6) (held_edits c.held) (puts_of grant_key grant_value c.grants) (held_edits_numbered c.held) (grants_numbered c.grants)),
            (
              (encoded_keys (In 7) site_key site_value (λ k. refl) t.sites, encoded_edit_keys (In 7) site_key site_value (λ k. refl) c.sites),
              tt,
            ),
          ),
        ),
      ),
    ),
  ),
)

-- the lists of a store behind one another
abbrev chained : {X : Type 0} → X → List X → List X → List X → List X → List X → List X → List X
chained state rows mappings closings conflicts ranges sites = state ∷ (rows ++ (mappings ++ (closings ++ (conflicts ++ (ranges ++ sites)))))

end_nil : {X : Type 0} (state : X) (rows mappings closings conflicts ranges sites : List X) → chained state rows mappings closings conflicts ranges (sites ++ []) ≡ chained state rows mappings closings conflicts ranges sites
end_nil state rows mappings closings conflicts ranges sites = ap (chained state rows mappings closings conflicts ranges) (append-nil sites)

pub publisher_follows : (c : PublisherChanges) (t : PublisherStored) → IsPublisherKeyed t → FitPublisher t c
    → rows_after_all entry_cmp (publisher_records t) (publisher_edits c t) ≡ publisher_records (publisher_after c t)
publisher_follows c t h f =
    let rows = encoded-after_all IsRowKey key_cmp entry_cmp row_entry_key publisher_row_value key_exact row_keys_order c.rows f.rows t.rows h.rows in
    let mappings = encoded-after_all IsRowSite row_site_cmp entry_cmp mapping_key mapping_value row_site_exact mapping_keys_order c.mappings f.mappings t.mappings h.mappings in
    let closings = closings_follow t.closings c.closings h.closings f.closings in
    let conflicts = conflicts_follow t.conflicts c.conflicts h.conflicts f.conflicts in
    let ranges = ranges_follow c.held t.held c.grants t.grants h.sorted h.held f.held h.grants f.grants f.new in
    let sites = encoded-after_all (λ n. n < 2 ^ 16) nat_cmp entry_cmp site_key site_value exact_unsigned site_keys_order c.sites f.sites t.sites h.sites in
    ap (λ l. rows_after_all entry_cmp l (publisher_edits c t)) (sym (end_nil (state_key, publisher_state t) (row_entries publisher_row_value t.rows) (mapping_entries t.mappings) (closing_entries t.closings) (conflict_entries t.conflicts) (range_entries t.held t.grants) (site_entries t.sites)))
    ∙ ap (rows_after_all entry_cmp (all_entries (publisher_parts c t)))
    (sym (end_nil (Put state_key (publisher_state (publisher_after c t))) (encoded_edits row_entry_key publisher_row_value c.rows) (encoded_edits mapping_key mapping_value c.mappings) (closing_edits c.closings) (conflict_edits c.conflicts) (held_edits c.held ++ puts_of grant_key grant_value c.grants) (encoded_edits site_key site_value c.sites)))
    ∙ parts_after entry_cmp entry_total table_of by_table 1 (publisher_parts c t) (publisher_numbered c t)
    ∙ end_nil (state_key, publisher_state (publisher_after c t)) (rows_after_all entry_cmp (row_entries publisher_row_value t.rows) (encoded_edits row_entry_key publisher_row_value c.rows)) (rows_after_all entry_cmp (mapping_entries t.mappings) (encoded_edits mapping_key mapping_value c.mappings)) (rows_after_all entry_cmp (closing_entries t.closings) (closing_edits c.closings)) (rows_after_all entry_cmp (conflict_entries t.conflicts) (conflict_edits c.conflicts)) (rows_after_all entry_cmp (range_entries t.held t.grants) (held_edits c.held ++ puts_of grant_key grant_value c.grants)) (rows_after_all entry_cmp (site_entries t.sites) (encoded_edits site_key site_value c.sites))
    ∙ simp (← rows, ← mappings, ← closings, ← conflicts, ← ranges, ← sites)

-- ---- a subscriber

abbrev subscriber_parts : SubscriberChanges → SubscriberStored → List (Part EntryKey (List ℕ))
subscriber_parts c t =
    part ((state_key, subscriber_state t) ∷ []) (Put state_key (subscriber_state (subscriber_after c t)) ∷ [])
    ∷ part (row_entries subscriber_row_value t.rows) (encoded_edits row_entry_key subscriber_row_value c.rows)
    ∷ no_part
    ∷ part (closing_entries t.closings) (closing_edits c.closings)
    ∷ part (conflict_entries t.conflicts) (conflict_edits c.conflicts)
    ∷ part (held_entries t.held) (held_edits c.held)
    ∷ []

subscriber_numbered : (c : SubscriberChanges) (t : SubscriberStored) → AreFrom table_of 1 (subscriber_parts c t)
subscriber_numbered c t = (
  ((refl, tt), (refl, tt)),
  (
    (encoded_keys (In 2) row_entry_key subscriber_row_value (λ k. refl) t.rows, encoded_edit_keys (In 2) row_entry_key subscriber_row_value (λ k. refl) c.rows),
    (
      (tt, tt),
      (
        (encoded_keys (In 4) closing_key closing_value (λ k. refl) (map closing_pair t.closings), encoded_edit_keys (In 4) closing_key closing_value (λ k. refl) c.closings),
        (
          (encoded_keys (In 5) conflict_key conflict_value (λ k. refl) (map conflict_pair t.conflicts), encoded_edit_keys (In 5) conflict_key conflict_value (λ k. refl) c.conflicts),
          (
            (held_numbered t.held, held_edits_numbered c.held),
            tt,
          ),
        ),
      ),
    ),
  ),
)

pub subscriber_follows : (c : SubscriberChanges) (t : SubscriberStored) → IsSubscriberKeyed t → FitSubscriber c
    → rows_after_all entry_cmp (subscriber_records t) (subscriber_edits c t) ≡ subscriber_records (subscriber_after c t)
subscriber_follows c t h f =
    let rows = encoded-after_all IsRowKey key_cmp entry_cmp row_entry_key subscriber_row_value key_exact row_keys_order c.rows f.rows t.rows h.rows in
    let closings = closings_follow t.closings c.closings h.closings f.closings in
    let conflicts = conflicts_follow t.conflicts c.conflicts h.conflicts f.conflicts in
    let held = held_follow c.held t.held h.sorted h.held f.held in
    ap (λ l. rows_after_all entry_cmp l (subscriber_edits c t)) (sym (end_nil (state_key, subscriber_state t) (row_entries subscriber_row_value t.rows) [] (closing_entries t.closings) (conflict_entries t.conflicts) [] (held_entries t.held)))
    ∙ ap (rows_after_all entry_cmp (all_entries (subscriber_parts c t)))
    (sym (end_nil (Put state_key (subscriber_state (subscriber_after c t))) (encoded_edits row_entry_key subscriber_row_value c.rows) [] (closing_edits c.closings) (conflict_edits c.conflicts) [] (held_edits c.held)))
    ∙ parts_after entry_cmp entry_total table_of by_table 1 (subscriber_parts c t) (subscriber_numbered c t)
    ∙ end_nil (state_key, subscriber_state (subscriber_after c t)) (rows_after_all entry_cmp (row_entries subscriber_row_value t.rows) (encoded_edits row_entry_key subscriber_row_value c.rows)) [] (rows_after_all entry_cmp (closing_entries t.closings) (closing_edits c.closings)) (rows_after_all entry_cmp (conflict_entries t.conflicts) (conflict_edits c.conflicts)) [] (rows_after_all entry_cmp (held_entries t.held) (held_edits c.held))
    ∙ simp (← rows, ← closings, ← conflicts, ← held)
