use Rattle.std.proofs.Common.{◌+◌, ◌-◌, ◌*◌}
use Rattle.recovery.proofs.Creating.{fresh_made, clearing_goes, placing_goes, finishing_goes}
use Rattle.recovery.proofs.Outside.{untouched_on, front_inside, front_keeps, body_inside, inside_on}
use Rattle.recovery.proofs.creation.write_index.Goals as goal

pub returns-in_err-place_front-clause-moments : goal.returns-in_err-place_front-clause-moments
returns-in_err-place_front-clause-moments g c = clearing_goes c.args.format.now _ _ c.place_front.ensures.moments

pub returns-in_err-place_body-clause-moments : goal.returns-in_err-place_body-clause-moments
returns-in_err-place_body-clause-moments g c =
    placing_goes c.args.format.now _ _ c.place_front.ensures.moments _ (c.args.format.now.log_bytes + 4096 * c.args.format.now.pages) c.in_ok-place_front.ensures.there c.place_body.ensures.moments

pub returns-clause-made : goal.returns-clause-made
returns-clause-made g c =
    fresh_made c.args.format.now c.place_front-2.result _ _ _ c.spell_superblock.ensures c.in_ok-place_body.ensures.there c.place_front-2.ensures.moments c.place_front-2.ensures.there

pub returns-clause-moments : goal.returns-clause-moments
returns-clause-moments g c =
    let format = c.args.format.now in
    finishing_goes format _ _ c.place_front.ensures.moments _ (format.log_bytes + 4096 * format.pages) c.in_ok-place_front.ensures.there c.place_body.ensures.moments
    _ _ c.spell_superblock.ensures c.in_ok-place_body.ensures.there c.place_front-2.ensures.moments

pub returns-in_err-place_front-clause-outside : goal.returns-in_err-place_front-clause-outside
returns-in_err-place_front-clause-outside g c = front_inside c.args.format.now _ _ _ c.place_front.ensures.moments

pub returns-in_err-place_front-clause-log : goal.returns-in_err-place_front-clause-log
returns-in_err-place_front-clause-log g c = front_keeps c.args.format.now _ _ _ c.place_front.ensures.moments

pub returns-in_err-place_body-clause-outside : goal.returns-in_err-place_body-clause-outside
returns-in_err-place_body-clause-outside g c =
    inside_on c.args.format.now _ _ _ (front_inside c.args.format.now _ _ _ c.place_front.ensures.moments) (body_inside c.args.format.now _ _ c.place_body.ensures.moments)

pub returns-in_err-place_body-clause-log : goal.returns-in_err-place_body-clause-log
returns-in_err-place_body-clause-log g c =
    untouched_on 4097 (c.args.format.now.log_bytes - 1) _ _ _ (front_keeps c.args.format.now _ _ _ c.place_front.ensures.moments) c.place_body.ensures.log

pub returns-clause-outside : goal.returns-clause-outside
returns-clause-outside g c =
    let format = c.args.format.now in
    inside_on format _ _ _ (inside_on format _ _ _ (front_inside format _ _ _ c.place_front.ensures.moments) (body_inside format _ _ c.place_body.ensures.moments))
    (front_inside format _ _ _ c.place_front-2.ensures.moments)

pub returns-clause-log : goal.returns-clause-log
returns-clause-log g c =
    let format = c.args.format.now in
    untouched_on 4097 (format.log_bytes - 1) _ _ _ (untouched_on 4097 (format.log_bytes - 1) _ _ _ (front_keeps format _ _ _ c.place_front.ensures.moments) c.place_body.ensures.log)
    (front_keeps format _ _ _ c.place_front-2.ensures.moments)
