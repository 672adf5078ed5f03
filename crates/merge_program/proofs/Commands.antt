-- How a run ends by the command that its words say.
use Rattle.std.proofs.Common.{List, None, Option, Some, ap, false, inl, length, refl, subst, sym, unwrap_or, ℕ, ◌∙◌, ◌≡◌, ◌≢◌}
use Rattle.merge_types.specs.declared.identifiers.SiteId.{SiteId}
use Rattle.merge_ports.specs.Entries.{Map}
use Rattle.merge_world.specs.Views.{HandedView}
use Rattle.merge_program.specs.declared.command.Command.{Command}
use Rattle.merge_program.specs.declared.command.Command.TheVariants.{Change, Make, Play, Show, Sync}
use Rattle.merge_program.specs.declared.command.Place.{Place}
use Rattle.merge_program.specs.declared.ending.Ending.{Ending}
use Rattle.merge_program.specs.declared.ending.Ending.TheVariants.{NoMemory, Usage}
use Rattle.merge_program.specs.Changing.{ChangeEnds}
use Rattle.merge_program.specs.Commands.{reads_input}
use Rattle.merge_program.specs.Elsewhere.{ChangesItsOwn}
use Rattle.merge_program.specs.Headline.{PlayRunEnds}
use Rattle.merge_program.specs.Making.{MakeEnds}
use Rattle.merge_program.specs.Showing.{ShowEnds}
use Rattle.merge_program.specs.Statuses.{CommandEnds}
use Rattle.merge_program.specs.Stores.{at_no_path}
use Rattle.merge_program.specs.Syncing.{SyncEnds}
use Rattle.merge_program.specs.Visits.{IsIdle, Visit, sides_of}
use Rattle.merge_program.proofs.Ends.{any-of}

module _ (ending : Ending) (handed : HandedView) (v : Visit) where
  abbrev Ends : Option Command → Type 0
  Ends command = CommandEnds command ending handed v

  pub by-play : (command : Command) → command ≡ Play → PlayRunEnds ending v.input handed (sides_of v) (at_no_path v.stored) (at_no_path v.kept) v.writes v.refused v.reads v.failed → Ends (Some command)
  by-play command is ends = subst (λ (c : Command). Ends (Some c)) (sym is) ends

  pub by-make : (command : Command) (customers : ℕ) → command ≡ Make customers → MakeEnds ending customers handed (sides_of v) (at_no_path v.stored) v.writes v.refused → Ends (Some command)
  by-make command customers is ends = subst (λ (c : Command). Ends (Some c)) (sym is) ends

  pub by-change : (command : Command) (place : Place) → command ≡ Change place → (resolvers : ℕ) → resolvers ≡ length handed.tallies → ChangeEnds ending place resolvers v → Ends (Some command)
  by-change command place is resolvers counted ends =
      subst (λ (c : Command). Ends (Some c)) (sym is) (subst (λ (n : ℕ). ChangeEnds ending place n v) counted ends)

  pub by-show : (command : Command) (place : Place) (article : List ℕ) → command ≡ Show place article → (resolvers : ℕ) → resolvers ≡ length handed.tallies → ShowEnds ending place article resolvers v → Ends (Some command)
  by-show command place article is resolvers counted ends =
      subst (λ (c : Command). Ends (Some c)) (sym is) (subst (λ (n : ℕ). ShowEnds ending place article n v) counted ends)

  pub by-sync : (command : Command) (place : Place) (address : List ℕ) → command ≡ Sync place address → (resolvers : ℕ) → resolvers ≡ length handed.tallies → SyncEnds ending place address resolvers v → Ends (Some command)
  by-sync command place address is resolvers counted ends =
      subst (λ (c : Command). Ends (Some c)) (sym is) (subst (λ (n : ℕ). SyncEnds ending place address n v) counted ends)

  -- the words say no command
  pub by-none : (command : Option Command) → command ≡ None → ending ≡ Usage → v.written ≡ v.was → v.kept ≡ v.stored → v.behind ≡ v.offers → v.new.links ≡ v.old.links → Ends command
  by-none command none usage silent same unasked unlinked = subst Ends (sym none) (usage, record { silent = silent; same = same; unasked = unasked; unlinked = unlinked })

  pub as-made : (command : Option Command) (customers : ℕ) → command ≡ Some (Make customers) → Ends command → MakeEnds ending customers handed (sides_of v) (at_no_path v.stored) v.writes v.refused
  as-made command customers is ends = subst Ends is ends

  pub by-words : (command said : Option Command) → said ≡ command → Ends said → Ends command
  by-words command said is ends = subst Ends is ends

-- memory was wanting for the words of a command
lacking-so : (handed : HandedView) (v : Visit) (command : Option Command) → command ≢ None → IsIdle v → CommandEnds command NoMemory handed v
lacking-so handed v None some idle = absurd (some refl)
lacking-so handed v (Some Play) some idle = any-of v.input
lacking-so handed v (Some (Make customers)) some idle = (tt, idle.silent)
lacking-so handed v (Some (Change place)) some idle = inl idle
lacking-so handed v (Some (Show place article)) some idle = inl idle
lacking-so handed v (Some (Sync place address)) some idle = inl idle

pub lacking : (handed : HandedView) (v : Visit) (command : Option Command) → command ≢ None → v.written ≡ v.was → v.kept ≡ v.stored → v.behind ≡ v.offers → v.new.links ≡ v.old.links → CommandEnds command NoMemory handed v
lacking handed v command some silent same unasked unlinked = lacking-so handed v command some (record { silent = silent; same = same; unasked = unasked; unlinked = unlinked })

pub same-command : (command other : Command) (said : Option Command) → Some command ≡ said → said ≡ Some other → command ≡ other
same-command command other said is say = ap (λ (o : Option Command). unwrap_or o command) (is ∙ say)

-- commands that read the input
pub play-reads : {P : Type 0} (command : Command) → command ≡ Play → reads_input (Some command) ≡ false → P
play-reads command is not_read = let lost : reads_input (Some Play) ≡ false = subst (λ (c : Command). reads_input (Some c) ≡ false) is not_read in absurd (cc lost)

pub change-reads : {P : Type 0} (command : Command) (place : Place) → command ≡ Change place → reads_input (Some command) ≡ false → P
change-reads command place is not_read = let lost : reads_input (Some (Change place)) ≡ false = subst (λ (c : Command). reads_input (Some c) ≡ false) is not_read in absurd (cc lost)

-- A command changes no store but its own.
module _ (old new : SiteId → List ℕ → Option Map) where
  pub own-by : (command said : Command) → command ≡ said → ChangesItsOwn (Some said) old new → ChangesItsOwn (Some command) old new
  own-by command said is same = subst (λ (c : Command). ChangesItsOwn (Some c) old new) (sym is) same

  pub own-said : (said command : Option Command) → said ≡ command → ChangesItsOwn said old new → ChangesItsOwn command old new
  own-said said command is same = subst (λ (c : Option Command). ChangesItsOwn c old new) is same

pub none-changed : (told : SiteId → List ℕ → Option Map) (command : Option Command) → ChangesItsOwn command told told
none-changed told None = refl
none-changed told (Some Play) = λ s p other. refl
none-changed told (Some (Make customers)) = λ s p other. refl
none-changed told (Some (Change place)) = λ s p other. refl
none-changed told (Some (Show place article)) = λ s p other. refl
none-changed told (Some (Sync place address)) = λ s p other. refl
