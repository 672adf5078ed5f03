-- Each command ends as it does.
use Rattle.std.proofs.Common.{length, refl, rules, sym, ◌∙◌, ◌≡◌}
use Rattle.std.proofs.lemmas.List.{length-map}
use Rattle.merge_program.proofs.Addresses.{meant-visible}
use Rattle.merge_program.proofs.Commands.{by-change, by-make, by-play, by-show, by-sync, change-reads, own-by, play-reads}
use Rattle.merge_program.proofs.Statuses.{change-silent, never-silent, show-silent}
use Rattle.merge_program.proofs.Syncs.{sync-silent}
use Rattle.merge_program.proofs.top.obey.Goals as goal

pub returns-in-Play-clause-ends : goal.returns-in-Play-clause-ends
returns-in-Play-clause-ends g c = by-play _ _ _ _ c.in-Play.is c.read_and_play.ensures.ends

pub returns-in-Play-clause-played : goal.returns-in-Play-clause-played
returns-in-Play-clause-played g c = λ play. c.read_and_play.ensures.part

pub returns-in-Play-clause-silent : goal.returns-in-Play-clause-silent
returns-in-Play-clause-silent g c = c.read_and_play.ensures.silent

pub returns-in-Play-clause-counted : goal.returns-in-Play-clause-counted
returns-in-Play-clause-counted g c = c.read_and_play.ensures.counted

pub returns-in-Make-clause-ends : goal.returns-in-Make-clause-ends
returns-in-Make-clause-ends g c = by-make _ _ _ _ _ c.in-Make.is c.make.ensures.ends

pub returns-in-Make-clause-played : goal.returns-in-Make-clause-played
returns-in-Make-clause-played g c = λ play. let is = c.in-Make.is in absurd (cc (is, play))

pub returns-in-Make-clause-silent : goal.returns-in-Make-clause-silent
returns-in-Make-clause-silent g c = λ silent. absurd (never-silent _ _ _ _ _ _ _ c.make.ensures.ends silent)

pub returns-in-Make-clause-counted : goal.returns-in-Make-clause-counted
returns-in-Make-clause-counted g c = λ other. refl

pub returns-in-Change-clause-ends : goal.returns-in-Change-clause-ends
returns-in-Change-clause-ends g c =
    let counted : c.len-count.result ≡ length c.args.resolvers.now.items = search rules in
    by-change _ _ _ _ _ c.in-Change.is _ (counted ∙ sym (length-map _ _)) c.change.ensures.ends

pub returns-in-Change-clause-played : goal.returns-in-Change-clause-played
returns-in-Change-clause-played g c = λ play. let is = c.in-Change.is in absurd (cc (is, play))

pub returns-in-Change-clause-silent : goal.returns-in-Change-clause-silent
returns-in-Change-clause-silent g c = change-silent _ _ _ _ c.change.ensures.ends

pub returns-in-Change-clause-counted : goal.returns-in-Change-clause-counted
returns-in-Change-clause-counted g c = c.change.ensures.counted

pub returns-in-Show-clause-ends : goal.returns-in-Show-clause-ends
returns-in-Show-clause-ends g c =
    let counted : c.len-count.result ≡ length c.args.resolvers.now.items = search rules in
    by-show _ _ _ _ _ _ c.in-Show.is _ (counted ∙ sym (length-map _ _)) (c.show.ensures.ends _ _ _)

pub returns-in-Show-clause-played : goal.returns-in-Show-clause-played
returns-in-Show-clause-played g c = λ play. let is = c.in-Show.is in absurd (cc (is, play))

pub returns-in-Show-clause-silent : goal.returns-in-Show-clause-silent
returns-in-Show-clause-silent g c = show-silent _ _ _ _ _ (c.show.ensures.ends (g.I.Source.left c.args.input.now) 0 0)

pub returns-in-Show-clause-counted : goal.returns-in-Show-clause-counted
returns-in-Show-clause-counted g c = λ other. refl

pub sync-requires : goal.sync-requires
sync-requires g c = meant-visible _ _ _ c.in-Sync.is c.requires

pub returns-in-Sync-clause-ends : goal.returns-in-Sync-clause-ends
returns-in-Sync-clause-ends g c =
    let counted : c.len-count.result ≡ length c.args.resolvers.now.items = search rules in
    by-sync _ _ _ _ _ _ c.in-Sync.is _ (counted ∙ sym (length-map _ _)) (c.sync.ensures.ends _ _ _)

pub returns-in-Sync-clause-played : goal.returns-in-Sync-clause-played
returns-in-Sync-clause-played g c = λ play. let is = c.in-Sync.is in absurd (cc (is, play))

pub returns-in-Sync-clause-silent : goal.returns-in-Sync-clause-silent
returns-in-Sync-clause-silent g c = sync-silent _ _ _ _ _ (c.sync.ensures.ends (g.I.Source.left c.args.input.now) 0 0)

pub returns-in-Sync-clause-counted : goal.returns-in-Sync-clause-counted
returns-in-Sync-clause-counted g c = λ other. refl

pub returns-in-Play-clause-unread : goal.returns-in-Play-clause-unread
returns-in-Play-clause-unread g c = play-reads _ c.in-Play.is

pub returns-in-Change-clause-unread : goal.returns-in-Change-clause-unread
returns-in-Change-clause-unread g c = change-reads _ _ c.in-Change.is

pub returns-in-Play-clause-others : goal.returns-in-Play-clause-others
returns-in-Play-clause-others g c = own-by _ _ _ _ c.in-Play.is c.read_and_play.ensures.others

pub returns-in-Make-clause-others : goal.returns-in-Make-clause-others
returns-in-Make-clause-others g c = own-by _ _ _ _ c.in-Make.is c.make.ensures.others

pub returns-in-Change-clause-others : goal.returns-in-Change-clause-others
returns-in-Change-clause-others g c = own-by _ _ _ _ c.in-Change.is c.change.ensures.others

pub returns-in-Show-clause-others : goal.returns-in-Show-clause-others
returns-in-Show-clause-others g c = own-by _ _ _ _ c.in-Show.is c.show.ensures.others

pub returns-in-Sync-clause-others : goal.returns-in-Sync-clause-others
returns-in-Sync-clause-others g c = own-by _ _ _ _ c.in-Sync.is c.sync.ensures.others
