use Rattle.rtl_looks.proofs.env.Env.put.Goals as goal
