mod Params
