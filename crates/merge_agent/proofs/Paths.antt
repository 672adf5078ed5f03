-- Where requests go can be written in a head, and so a request to an address that can.
use Rattle.std.proofs.Common.{◌≡◌, ◌≤◌, ℕ, List, refl, sym, subst, arith}
use Rattle.std.specs.Prelude.{All, Bool, true, false, codes, nat_le, ◌&&◌}
use Rattle.std.specs.List.{list_all}
use Rattle.std.proofs.lemmas.Bool.{leb-true}
use Rattle.std.proofs.lemmas.List.Elements.{All-weaker}
use Rattle.std.proofs.lemmas.List.Sums.{AllPass-from_list_all}
use Rattle.merge_batch.specs.Heads.{kind_of}
use Rattle.merge_batch.specs.declared.request.Kind.TheVariants as kind
use Rattle.merge_batch.specs.declared.request.Request.{Request}
use Rattle.merge_batch.specs.declared.request.Request.TheVariants as request
use Rattle.merge_json.specs.Requests.{path_of}
use Rattle.merge_wire.specs.Written.{IsVisible, IsWritableRequest}
use Rattle.merge_wire.specs.declared.message.Message.{Message}

abbrev is_visible : ℕ → Bool
is_visible byte = nat_le 33 byte && nat_le byte 126

both : (x y : Bool) → (x && y) ≡ true → (x ≡ true) × (y ≡ true)
both true y e = (refl, e)
both false y e = absurd (grind (arith, e))

visible-byte : (byte : ℕ) → is_visible byte ≡ true → (33 ≤ byte) × (byte ≤ 126)
visible-byte byte e = let parts = both (nat_le 33 byte) (nat_le byte 126) e in (leb-true 33 byte parts.0, leb-true byte 126 parts.1)

all-visible : (text : List ℕ) → list_all is_visible text ≡ true → All (λ (byte : ℕ). (33 ≤ byte) × (byte ≤ 126)) text
all-visible text e = All-weaker (λ (byte : ℕ). is_visible byte ≡ true) (λ (byte : ℕ). (33 ≤ byte) × (byte ≤ 126)) visible-byte text (AllPass-from_list_all is_visible text e)

visible-path : (r : Request) → IsVisible (path_of (kind_of r))
visible-path (request.Join m) = record { some = omega arith; few = omega arith; visible = all-visible (path_of kind.Join) refl }
visible-path (request.Upload m) = record { some = omega arith; few = omega arith; visible = all-visible (path_of kind.Upload) refl }
visible-path (request.Ranges m) = record { some = omega arith; few = omega arith; visible = all-visible (path_of kind.Ranges) refl }
visible-path (request.Download m) = record { some = omega arith; few = omega arith; visible = all-visible (path_of kind.Download) refl }

pub writable-message : (m : Message) (r : Request) (path host body address : List ℕ) → m ≡ record { method = codes "POST"; path = path; host = host; status = 0; body = body } → path ≡ path_of (kind_of r) → host ≡ address → IsVisible address
    → IsWritableRequest m
writable-message m r path host body address e is_path is_host visible =
    subst (λ (n : Message). IsWritableRequest n) (sym e) (record { status = refl; method = refl; path = subst IsVisible (sym is_path) (visible-path r); host = subst IsVisible (sym is_host) visible })
