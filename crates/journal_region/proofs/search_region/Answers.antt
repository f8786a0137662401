-- `search_region` meets its contract: a region of another size is refused, and the blocks of any other are tested.
use mathlib.Core.Path.{refl}
use Rattle.journal_rules.proofs.Regions.{sized_low, sized_high}
use Rattle.journal_region.proofs.Found.{find_wrong, sized_rest, sized_whole}
use Rattle.journal_region.proofs.search_region.Goals as goal
use Rattle.journal_region.proofs.search_region.Goals.{then-region-ne0-via-then-region-ne0, then-region-ne0-via-else-region-ne0+then-blocks-lt1, then-region-ne0-via-else-region-ne0+else-blocks-lt1+then-blocks-gt128}

pub returns-then-region-ne0 : goal.returns-then-region-ne0
returns-then-region-ne0 c =
    let r = c.args.region.now in
    find_wrong r (elim c.then-region-ne0.branch [
      | then-region-ne0-via-then-region-ne0 w ↦ sized_rest r w.if-region-ne0.true
      | then-region-ne0-via-else-region-ne0+then-blocks-lt1 w ↦ sized_low r w.if-blocks-lt1.true
      | then-region-ne0-via-else-region-ne0+else-blocks-lt1+then-blocks-gt128 w ↦ sized_high r w.if-blocks-gt128.true
    ])

pub search_blocks-requires : goal.search_blocks-requires
search_blocks-requires c =
    let r = c.args.region.now in
    (sized_whole r c.if-blocks-lt1.false c.if-blocks-gt128.false c.if-region-ne0.false, refl)
