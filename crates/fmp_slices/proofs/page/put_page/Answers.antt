use Rattle.fmp_slices.proofs.Canvases.{page_added}
use Rattle.fmp_slices.proofs.page.put_page.Goals as goal

pub returns : goal.returns
returns c =
    page_added c.args.name.now c.args.picture.now c.args.json.now _ _ _ _ _ _ _ _ _ _
    c.raw.ensures c.put_title.ensures c.put_tools.ensures c.put_picture.ensures c.raw-2.ensures c.put_data.ensures
    c.put_script.ensures
