use Rattle.rtl_kept_bodies.proofs.Shapes.{no_form}
use Rattle.rtl_kept_bodies.proofs.forms.form_of.Goals as goal

pub returns : goal.returns
returns c = no_form c.args.body.now c.if-body-eq1.false c.if-body-eq2.false
